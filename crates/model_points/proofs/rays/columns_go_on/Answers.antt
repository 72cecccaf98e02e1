use Rattle.std.proofs.Common.{rules, refl, ◌≡◌, ◌<◌, length, arith, ap, below_more, IsTrue, false, true, pos}
use Rattle.frac128.specs.Rational.{int}
use Rattle.model_points.specs.Rays.{GoesOn, ColumnGoesOn, ColumnsGoOn}
use Rattle.model_points.proofs.RayLemmas.{column-goes, column-passed}
use Rattle.model_points.proofs.rays.columns_go_on.Goals as goal

pub returns-then-not-column_goes_on : goal.returns-then-not-column_goes_on
returns-then-not-column_goes_on c =
    let M = c.args.model.now in
    let d = c.args.direction.now in
    let items : length c.cols-col-items.result.now ≡ length M.cols = ap length c.cols-col-items.ensures.items in
    let below : c.loop-index.index < length M.cols = omega arith in
    let col = c.col-item.result in
    let number = c.index-numbers-index.result in
    let refused : ¬ ((IsTrue col.int → number ≡ int (pos 0)) × GoesOn col.lo col.up number) = λ h. let t : IsTrue c.column_goes_on.result = c.column_goes_on.ensures.1 h in let f : c.column_goes_on.result ≡ false = search rules in cc in
    let fails : ¬ ColumnsGoOn M d = column-passed M d _ _ c.loop-index.index col _ c.cols-col-items.ensures.items c.as_slice-numbers.ensures c.requires below c.col-item.is c.index-numbers-index.is refused in
    ((λ t. let e : false ≡ true = t in cc), (λ h. absurd (fails h)))

pub loop-index-preserved : goal.loop-index-preserved
loop-index-preserved c =
    let M = c.args.model.now in
    let d = c.args.direction.now in
    let items : length c.cols-col-items.result.now ≡ length M.cols = ap length c.cols-col-items.ensures.items in
    let below : c.loop-index.index < length M.cols = omega arith in
    let allowed : IsTrue c.column_goes_on.result = search rules in
    below_more (ColumnGoesOn M d) c.loop-index.index c.loop-index.invariant
    (column-goes M d _ _ c.loop-index.index c.col-item.result _ c.cols-col-items.ensures.items c.as_slice-numbers.ensures c.requires below c.col-item.is c.index-numbers-index.is (c.column_goes_on.ensures.0 allowed))

pub returns : goal.returns
returns c =
    let items : length c.cols-col-items.result.now ≡ length c.args.model.now.cols = ap length c.cols-col-items.ensures.items in
    ((λ t j below. let h : j < c.loop-index.index = omega arith in c.loop-index.invariant j h), (λ h. refl))
