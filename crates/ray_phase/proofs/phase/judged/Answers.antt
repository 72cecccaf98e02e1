use Rattle.std.proofs.Common.{sym, subst, ◌∙◌, inl, inr, pos, Ok}
use Rattle.std.proofs.lemmas.Bool.{false≢true}
use Rattle.frac128.specs.Rational.{int, ◌<ℚ◌}
use Rattle.frac128.specs.RationalOrder.{≤ℚ_from_not}
use Rattle.model_points.specs.Rays.{direction_cost, IsRayJudged}
use Rattle.model_points.proofs.RayLemmas.{judged_rightly}
use Rattle.ray_phase.specs.Answers.{IsRayEnd}
use Rattle.ray_phase.specs.declared.phase.RayAnswer.TheVariants.{DualBasis}
use Rattle.ray_phase.proofs.DirectionLemmas.{count_rows, model_ray, lawful_basis, optimum_of, wide_end}
use Rattle.ray_phase.proofs.phase.judged.Goals as goal

pub high_variables-requires : goal.high_variables-requires
high_variables-requires c = count_rows c.args.model.now c.args.state.now c.requires.directions

pub returns-in-Err : goal.returns-in-Err
returns-in-Err c =
    let d = c.args.direction in
    λ n limit. wide_end c.args.model.now n limit c.args.state.now c.in-Err.step c.args.basis (inr (d, (optimum_of c.args.state.now d c.requires.best, inl c.in-Err.ensures))) c.requires.basis c.wide_at.result c.wide_at.ensures

pub unreachable-requires : goal.unreachable-requires
unreachable-requires c =
    let M = c.args.model.now in
    let d = c.args.direction in
    let below = subst (λ t. t <ℚ int (pos 0)) c.in-Ok.ensures.1 (c.is_negative.ensures.0 c.if-is_negative.true) in
    let never = subst (λ b. IsRayJudged M d (Ok b)) c.in-Ok-false.field-0-test c.in-Ok-false.ensures in
    (judged_rightly M d).none never (model_ray M c.args.state.now c.requires.directions d c.requires.best c.cols-lawful.ensures.lawful below)

pub returns-in-Ok-true : goal.returns-in-Ok-true
returns-in-Ok-true c = λ n limit.
    let d = c.args.direction in
    (optimum_of c.args.state.now d c.requires.best, subst (λ b. IsRayJudged c.args.model.now d (Ok b)) c.in-Ok-true.field-0-test c.in-Ok-true.ensures)

pub returns-in-Err-is_ray : goal.returns-in-Err-is_ray
returns-in-Err-is_ray c =
    let d = c.args.direction in
    let below = subst (λ t. t <ℚ int (pos 0)) c.in-Ok.ensures.1 (c.is_negative.ensures.0 c.if-is_negative.true) in
    λ n limit. wide_end c.args.model.now n limit c.args.state.now c.in-Err-is_ray.step c.args.basis (inr (d, (optimum_of c.args.state.now d c.requires.best, inr ((c.in-Ok.ensures.0, below), c.in-Err-is_ray.ensures)))) c.requires.basis
    c.wide_at-in-Err-is_ray.result c.wide_at-in-Err-is_ray.ensures

pub returns-in-Ok-high_variables : goal.returns-in-Ok-high_variables
returns-in-Ok-high_variables c = λ n limit.
    let M = c.args.model.now in
    let s = c.args.state.now in
    let d = c.args.direction in
    let best = c.requires.best in
    let high = c.in-Ok-high_variables.high in
    let not_below = ≤ℚ_from_not (int (pos 0)) (direction_cost M d) (λ h. false≢true (sym c.if-is_negative.false ∙ c.is_negative.ensures.1 (subst (λ t. t <ℚ int (pos 0)) (sym c.in-Ok.ensures.1) h))) in
    subst (λ b. IsRayEnd M n limit s (DualBasis b)) (sym c.with_high.ensures) (
      (d, (optimum_of s d best, (c.in-Ok.ensures.0, not_below))),
      (record { basic = c.requires.basis.basic; high = c.in-Ok-high_variables.ensures }, lawful_basis M s c.requires.directions d best not_below c.args.basis.basic high c.requires.basis.basic c.in-Ok-high_variables.ensures),
    )
