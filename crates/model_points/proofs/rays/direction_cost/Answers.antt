use Rattle.std.proofs.Common.{◌∙◌, ap, subst, length}
use Rattle.checked_sum.specs.Steps.{AllFit, IsFirstWide, partial}
use Rattle.lp_model.specs.Program.{cost, coordinate, in_least_form}
use Rattle.model_points.proofs.RayLemmas.{cost_is}
use Rattle.model_points.proofs.rays.direction_cost.Goals as goal

pub returns-in-Ok : goal.returns-in-Ok
returns-in-Ok c =
    let M = c.args.model.now in
    let d = c.args.direction.now in (
      subst (λ t. AllFit t (λ j. cost M 1 j) (λ j. coordinate d j) (length M.cols)) c.whole.ensures c.in-Ok.ensures.0,
      cost_is M d c.in-Ok.cost c.least_form.result (c.in-Ok.ensures.1 ∙ ap (λ t. partial t (λ j. cost M 1 j) (λ j. coordinate d j) (length M.cols)) c.whole.ensures)
          (c.least_form.ensures ∙ ap (λ s. in_least_form s c.in-Ok.cost) c.sense.ensures),
    )

pub returns-in-Err : goal.returns-in-Err
returns-in-Err c =
    let M = c.args.model.now in
    let d = c.args.direction.now in
    (c.in-Err.ensures.0, (subst (λ t. IsFirstWide t (λ j. cost M 1 j) (λ j. coordinate d j) (length M.cols) c.in-Err.ensures.0) c.whole.ensures c.in-Err.ensures.1.0, c.in-Err.ensures.1.1))
