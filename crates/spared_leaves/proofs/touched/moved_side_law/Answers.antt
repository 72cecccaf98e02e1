use Rattle.spared_leaves.proofs.MovedSides.{moved_side}
use Rattle.spared_leaves.proofs.touched.moved_side_law.Goals as goal

pub returns : goal.returns
returns c = moved_side
