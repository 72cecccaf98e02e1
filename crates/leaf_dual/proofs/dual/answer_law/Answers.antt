use Rattle.leaf_dual.proofs.WeakDuality.{lag_answer-is, farkas_answer-is}
use Rattle.leaf_dual.proofs.dual.answer_law.Goals as goal

pub returns : goal.returns
returns c = λ F path mult v. (lag_answer-is F path mult v, farkas_answer-is F path mult v)
