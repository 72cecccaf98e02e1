use Rattle.dual_bounds.proofs.BoundLemmas.{tree-bound}
use Rattle.dual_bounds.proofs.laws.tree_bound_law.Goals as goal

pub returns : goal.returns
returns c = tree-bound
