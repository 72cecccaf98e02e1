use Rattle.node_solve.proofs.AddedLemmas.{last_cuts}
use Rattle.node_solve.proofs.laws.last_cuts_law.Goals as goal

pub returns : goal.returns
returns c = λ W pool made r makes new new_is. last_cuts W pool made r makes new new_is
