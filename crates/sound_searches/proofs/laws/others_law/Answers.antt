use Rattle.sound_searches.proofs.OtherLemmas.{placing-other}
use Rattle.sound_searches.proofs.laws.others_law.Goals as goal

pub returns : goal.returns
returns c = placing-other
