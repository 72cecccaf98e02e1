use Rattle.sound_searches.proofs.ClosedTree.{sound-empty}
use Rattle.sound_searches.proofs.laws.empty_law.Goals as goal

pub returns : goal.returns
returns c = sound-empty
