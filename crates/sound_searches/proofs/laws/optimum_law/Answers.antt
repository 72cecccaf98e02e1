use Rattle.sound_searches.proofs.ClosedTree.{sound-optimum}
use Rattle.sound_searches.proofs.laws.optimum_law.Goals as goal

pub returns : goal.returns
returns c = sound-optimum
