use Rattle.std.proofs.Common.{subst}
use Rattle.cert_check.specs.Walk.{IsPointOf}
use Rattle.cert_check.proofs.VerdictSteps.{point_judged}
use Rattle.cert_check.proofs.checking.check_value.Goals as goal

pub returns-in-Some : goal.returns-in-Some
returns-in-Some c = λ named is. point_judged c.args.model.now c.args.value.now c.in-Some.point named c.judge_point.result c.judge_point.ensures (subst (IsPointOf c.args.model.now named) c.in-Some.is is)
