use Rattle.node_solve.proofs.OneWorkLemmas.{one_work}
use Rattle.node_solve.proofs.laws.one_work_law.Goals as goal

pub returns : goal.returns
returns c = λ W lawful some r t some_r some_t r_is t_is. one_work W lawful some r t some_r some_t r_is t_is
