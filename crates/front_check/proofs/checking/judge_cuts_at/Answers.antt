use Rattle.std.proofs.Common.{subst}
use Rattle.std.proofs.lemmas.Result.{IfOk-weaker}
use Rattle.cert_check.specs.Cuts.{AreCutsJudged}
use Rattle.front_check.proofs.checking.judge_cuts_at.Goals as goal

pub returns : goal.returns
returns c =
    IfOk-weaker c.judge_tree_cuts-judged.result _ _
    (λ j h. record { part = c.in-Ok.part; is = c.in-Ok.ensures; judged = subst (λ cuts. AreCutsJudged c.in-Ok.part.model cuts j) c.as_slice.ensures h })
    c.judge_tree_cuts-judged.ensures
