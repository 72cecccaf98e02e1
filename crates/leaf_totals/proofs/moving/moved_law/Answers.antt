use Rattle.leaf_totals.proofs.MovedLemmas.{moved_totals}
use Rattle.leaf_totals.proofs.moving.moved_law.Goals as goal

pub returns : goal.returns
returns c = moved_totals
