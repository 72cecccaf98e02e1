use Rattle.sound_searches.proofs.ClosedTree.{sound-bound}
use Rattle.sound_searches.proofs.laws.bound_law.Goals as goal

pub returns : goal.returns
returns c = sound-bound
