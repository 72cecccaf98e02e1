use Rattle.leaf_totals.proofs.MovedLemmas.{short_moved}
use Rattle.leaf_totals.proofs.moving.short_moved_law.Goals as goal

pub returns : goal.returns
returns c = short_moved
