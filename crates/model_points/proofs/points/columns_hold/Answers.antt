use Rattle.std.proofs.Common.{rules, refl, ◌≡◌, ◌<◌, length, arith, ap, below_more, IsTrue, false, true}
use Rattle.lp_model.specs.Program.{IsAllowed, ColumnHolds}
use Rattle.model_points.specs.Answers.{ColumnsHold}
use Rattle.model_points.proofs.AnswerLemmas.{column-holds, column-fails}
use Rattle.model_points.proofs.points.columns_hold.Goals as goal

pub returns-then-not-allows : goal.returns-then-not-allows
returns-then-not-allows c =
    let M = c.args.model.now in
    let x = c.args.point.now in
    let items : length c.cols-col-items.result.now ≡ length M.cols = ap length c.cols-col-items.ensures.items in
    let below : c.loop-index.index < length M.cols = omega arith in
    let col = c.col-item.result in
    let refused : ¬ IsAllowed col.int col.lo col.up c.index-numbers-index.result = λ h. let t : IsTrue c.allows.result = c.allows.ensures.1 h in let f : c.allows.result ≡ false = search rules in cc in
    let fails : ¬ ColumnsHold M x = column-fails M x _ _ c.loop-index.index col _ c.cols-col-items.ensures.items c.as_slice-numbers.ensures c.requires below c.col-item.is c.index-numbers-index.is refused in
    ((λ t. let e : false ≡ true = t in cc), (λ h. absurd (fails h)))

pub loop-index-preserved : goal.loop-index-preserved
loop-index-preserved c =
    let M = c.args.model.now in
    let x = c.args.point.now in
    let items : length c.cols-col-items.result.now ≡ length M.cols = ap length c.cols-col-items.ensures.items in
    let below : c.loop-index.index < length M.cols = omega arith in
    let allowed : IsTrue c.allows.result = search rules in
    below_more (ColumnHolds M x) c.loop-index.index c.loop-index.invariant
    (column-holds M x _ _ c.loop-index.index c.col-item.result _ c.cols-col-items.ensures.items c.as_slice-numbers.ensures c.requires below c.col-item.is c.index-numbers-index.is (c.allows.ensures.0 allowed))

pub returns : goal.returns
returns c =
    let items : length c.cols-col-items.result.now ≡ length c.args.model.now.cols = ap length c.cols-col-items.ensures.items in
    ((λ t j below. let h : j < c.loop-index.index = omega arith in c.loop-index.invariant j h), (λ h. refl))
