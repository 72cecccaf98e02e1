use Rattle.leaf_dual.proofs.WeakDuality.{reached-bound}
use Rattle.leaf_dual.proofs.dual.closes_law.Goals as goal

pub returns : goal.returns
returns c = λ F path mult t whole x valid objective reaches feasible inside. reached-bound F path mult x valid feasible inside t whole objective reaches
