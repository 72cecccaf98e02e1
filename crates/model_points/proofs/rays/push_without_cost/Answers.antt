use Rattle.std.proofs.Common.{◌∙◌, ap, ◌++◌, [], ◌∷◌}
use Rattle.std.proofs.lemmas.Result.{IfOk-weaker}
use Rattle.frac128.specs.Rational.{ℚ}
use Rattle.lp_model.specs.declared.types.Col.{Col}
use Rattle.model_points.proofs.rays.push_without_cost.Goals as goal

pub returns-in-Ok : goal.returns-in-Ok
returns-in-Ok c =
    IfOk-weaker c.push.result _ _
    (λ _ h. h ∙ ap (λ (x : Col). c.args.list.now ++ x ∷ []) (c.in-Ok.ensures ∙ ap (λ (q : ℚ). record c.args.col.now { cost = q }) c.whole.ensures))
    c.push.ensures.pushed
