use Rattle.std.proofs.Common.{subst, sym}
use Rattle.lp_model.specs.Formulations.{formulation}
use Rattle.cert_check.specs.Verdict.{IsFarkasJudged}
use Rattle.cert_check.specs.private.Walk.{IsPlacedJudged}
use Rattle.cert_check.proofs.checking.judge.Goals as goal

pub returns-in-Farkas : goal.returns-in-Farkas
returns-in-Farkas c =
    let F = formulation c.args.model.now c.args.cuts.now in
    subst (λ node. IsPlacedJudged F c.args.claim.now c.args.path.now node c.judge_farkas.result) (sym c.in-Farkas.is)
    (subst (λ mult. IsFarkasJudged F c.args.path.now mult c.judge_farkas.result) c.as_slice-in-Farkas.ensures c.judge_farkas.ensures)
