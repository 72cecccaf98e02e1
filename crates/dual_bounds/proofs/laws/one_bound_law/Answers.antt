use Rattle.dual_bounds.proofs.OneBound.{one-bound}
use Rattle.dual_bounds.proofs.laws.one_bound_law.Goals as goal

pub returns : goal.returns
returns c = one-bound
