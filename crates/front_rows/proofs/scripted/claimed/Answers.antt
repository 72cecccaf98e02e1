use Rattle.std.specs.Prelude.{◌≡◌, true, Ok}
use Rattle.std.proofs.Common.{sym, ap, subst, ◌∙◌}
use Rattle.lp_model.specs.Program.{Point, IsOptimum, value}
use Rattle.model_points.specs.Answers.{IsFeasibilityAnswer}
use Rattle.cert_check.specs.Accepted.{point_of}
use Rattle.front_rows.proofs.Shown.{named_point, claimed_optimum}
use Rattle.front_rows.proofs.scripted.claimed.Goals as goal

pub returns-in-Ok-Some-clause-true_of : goal.returns-in-Ok-Some-clause-true_of
returns-in-Ok-Some-clause-true_of c =
    let M = c.args.model.now in
    let v = c.in-Optimal.value in
    let at = named_point M c.as_slice.result.now c.in-Ok-Some.field-0 c.in-Ok-Some.point c.in-Ok-Some.field-0-is c.in-Ok-Some.ensures ∙ ap (point_of M) c.as_slice.ensures in (
      subst (λ (x : Point). IsOptimum M x × (v ≡ value M 1 x) × IsFeasibilityAnswer M x (Ok true)) (sym at)
          (claimed_optimum M c.args.cert.now v c.in-Optimal.is c.requires.verdict c.requires.accepts),
      c.requires.results,
    )
