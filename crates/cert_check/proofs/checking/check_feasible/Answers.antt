use Rattle.std.proofs.Common.{subst}
use Rattle.cert_check.specs.Walk.{IsPointOf}
use Rattle.cert_check.proofs.VerdictSteps.{feasible_judged}
use Rattle.cert_check.proofs.checking.check_feasible.Goals as goal

pub returns-in-Some : goal.returns-in-Some
returns-in-Some c = λ named is. feasible_judged c.args.model.now c.in-Some.point named c.judge_feasible.result c.judge_feasible.ensures (subst (IsPointOf c.args.model.now named) c.in-Some.is is)
