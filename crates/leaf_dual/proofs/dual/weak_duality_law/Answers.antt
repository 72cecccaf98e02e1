use Rattle.leaf_dual.proofs.WeakDuality.{lag-bound}
use Rattle.leaf_dual.proofs.dual.weak_duality_law.Goals as goal

pub returns : goal.returns
returns c = λ F path mult x valid feasible inside. lag-bound F path mult x valid feasible inside
