use Rattle.tree_manager.proofs.AnswerLemmas.{same-targets}
use Rattle.tree_manager.proofs.laws.same_end_law.Goals as goal

pub returns : goal.returns
returns c = λ P Q m n same closed other. same-targets P.search Q.search m.sound n.sound same closed other
