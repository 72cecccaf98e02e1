use Rattle.dual_bounds.proofs.BoundLemmas.{point-bound}
use Rattle.dual_bounds.proofs.laws.point_bound_law.Goals as goal

pub returns : goal.returns
returns c = point-bound
