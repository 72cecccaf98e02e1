use Rattle.std.proofs.lemmas.Result.{IfOk-weaker}
use Rattle.leaf_judging.proofs.judging.MarkingLeafVisitor.visit.Goals as goal

pub returns : goal.returns
returns c = IfOk-weaker c.mark_leaf.result _ _ (λ _ marks path same. marks path c.args._kept.now) c.mark_leaf.ensures
