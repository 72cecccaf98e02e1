use Rattle.std.proofs.Common.{◌≡◌, ◌∙◌, ap, sym, subst, arith, length, Ok, inl, inr}
use Rattle.std.proofs.lemmas.Bool.{false≢true}
use Rattle.model_points.specs.private.Rays.{AreRowsJudged}
use Rattle.model_points.proofs.RayLemmas.{cost_judged}
use Rattle.model_points.proofs.rays.is_ray.Goals as goal

pub returns-then-not-columns_go_on : goal.returns-then-not-columns_go_on
returns-then-not-columns_go_on c =
    let M = c.args.model.now in
    let d = c.args.direction.now in
    let numbers = ap length c.as_slice.ensures in
    let columns = ap length c.cols.ensures.items in
    let shape : length d ≡ length M.cols = omega (arith, numbers, columns) in
    inr (shape, inl (λ all. false≢true (sym c.if-not-columns_go_on.true ∙ c.columns_go_on.ensures.1 all)))

pub returns-in-Err : goal.returns-in-Err
returns-in-Err c =
    let M = c.args.model.now in
    let d = c.args.direction.now in
    let numbers = ap length c.as_slice.ensures in
    let columns = ap length c.cols.ensures.items in
    let shape : length d ≡ length M.cols = omega (arith, numbers, columns) in
    (shape, inl (c.columns_go_on.ensures.0 c.if-not-columns_go_on.false, c.in-Err.ensures))

pub returns-in-Ok-false : goal.returns-in-Ok-false
returns-in-Ok-false c =
    let M = c.args.model.now in
    let d = c.args.direction.now in
    let numbers = ap length c.as_slice.ensures in
    let columns = ap length c.cols.ensures.items in
    let shape : length d ≡ length M.cols = omega (arith, numbers, columns) in
    let rows = subst (λ b. AreRowsJudged M d (Ok b)) c.in-Ok-false.field-0-test c.in-Ok-false.ensures in
    inr (shape, inr (inl (c.columns_go_on.ensures.0 c.if-not-columns_go_on.false, rows)))

pub returns-in-Err-direction_cost : goal.returns-in-Err-direction_cost
returns-in-Err-direction_cost c =
    let M = c.args.model.now in
    let d = c.args.direction.now in
    let numbers = ap length c.as_slice.ensures in
    let columns = ap length c.cols.ensures.items in
    let shape : length d ≡ length M.cols = omega (arith, numbers, columns) in
    let rows = subst (λ b. AreRowsJudged M d (Ok b)) c.in-Ok-true.field-0-test c.in-Ok-true.ensures in
    (shape, inr (record { columns = c.columns_go_on.ensures.0 c.if-not-columns_go_on.false; rows = rows }, c.in-Err-direction_cost.ensures))

pub returns-in-Ok : goal.returns-in-Ok
returns-in-Ok c =
    let M = c.args.model.now in
    let d = c.args.direction.now in
    let numbers = ap length c.as_slice.ensures in
    let columns = ap length c.cols.ensures.items in
    let shape : length d ≡ length M.cols = omega (arith, numbers, columns) in
    let rows = subst (λ b. AreRowsJudged M d (Ok b)) c.in-Ok-true.field-0-test c.in-Ok-true.ensures in
    cost_judged M d c.is_negative.result c.in-Ok.cost shape (c.columns_go_on.ensures.0 c.if-not-columns_go_on.false) rows c.in-Ok.ensures.0 c.in-Ok.ensures.1 c.is_negative.ensures
