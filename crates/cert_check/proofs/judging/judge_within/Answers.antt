use Rattle.std.proofs.Common.{refl, subst, inl, inr}
use Rattle.lp_model.specs.Formulations.{formulation}
use Rattle.cert_check.specs.Verdict.{IsBoundJudged}
use Rattle.cert_check.proofs.CutSteps.{wide-not}
use Rattle.cert_check.proofs.judging.judge_within.Goals as goal

pub returns-in-Ok : goal.returns-in-Ok
returns-in-Ok c =
    inl (
      c.in-Ok.ensures.0,
      subst (λ t. IsBoundJudged (formulation c.args.model.now c.args.cuts.now) t c.args.path.now c.args.mult.now c.judge_bound.result) c.in-Ok.ensures.1 c.judge_bound.ensures,
    )

pub returns-in-Err : goal.returns-in-Err
returns-in-Err c = inr ((c.in-Err.ensures, refl), wide-not _)
