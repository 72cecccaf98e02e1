use Rattle.leaf_dual.proofs.WeakDuality.{farkas-none}
use Rattle.leaf_dual.proofs.dual.farkas_law.Goals as goal

pub returns : goal.returns
returns c = λ F path mult x valid positive feasible inside. farkas-none F path mult x valid feasible inside positive
