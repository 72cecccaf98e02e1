use Rattle.leaf_dual.proofs.OneAnswer.{lag_one, farkas_one}
use Rattle.leaf_dual.proofs.dual.one_answer_law.Goals as goal

pub returns : goal.returns
returns c = λ F path mult r s. (lag_one F path mult r s, farkas_one F path mult r s)
