use Rattle.std.proofs.Common.{subst}
use Rattle.cert_check.specs.Walk.{IsPointOf}
use Rattle.cert_check.proofs.VerdictSteps.{direction_judged}
use Rattle.cert_check.proofs.checking.check_ray.Goals as goal

pub returns-in-Some : goal.returns-in-Some
returns-in-Some c = λ named is. direction_judged c.args.model.now c.in-Some.direction named c.judge_ray.result c.judge_ray.ensures (subst (IsPointOf c.args.model.now named) c.in-Some.is is)
