use Rattle.std.proofs.Common.{sym, subst}
use Rattle.cert_check.specs.Verdict.{IsClaimJudged}
use Rattle.cert_check.proofs.checking.check_claim.Goals as goal

pub returns-in-Optimal : goal.returns-in-Optimal
returns-in-Optimal c = λ p r point ray. subst (λ claim. IsClaimJudged c.args.model.now claim p r c.check_value.result) (sym c.in-Optimal.is) (c.check_value.ensures p point)

pub returns-in-Within : goal.returns-in-Within
returns-in-Within c = λ p r point ray. subst (λ claim. IsClaimJudged c.args.model.now claim p r c.check_within.result) (sym c.in-Within.is) (c.check_within.ensures p r point)

pub returns-in-Unbounded : goal.returns-in-Unbounded
returns-in-Unbounded c = λ p r point ray. subst (λ claim. IsClaimJudged c.args.model.now claim p r c.check_unbounded.result) (sym c.in-Unbounded.is) (c.check_unbounded.ensures p r point ray)
