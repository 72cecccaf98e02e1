use Rattle.std.proofs.Common.{rules, ◌≡◌, ◌∙◌, ◌<◌, length, arith, ap, sym, below_more, IsTrue, false, inl, inr}
use Rattle.std.proofs.lemmas.Bool.{false≢true}
use Rattle.lp_model.specs.Program.{Within}
use Rattle.model_points.specs.Answers.{RowPasses}
use Rattle.model_points.proofs.AnswerLemmas.{row-passes, row-breach, all-pass}
use Rattle.model_points.proofs.points.is_feasible.Goals as goal

pub returns-then-not-is_within : goal.returns-then-not-is_within
returns-then-not-is_within c =
    let M = c.args.model.now in
    let x = c.args.point.now in
    let numbers : length c.as_slice.result.now ≡ length x = ap length c.as_slice.ensures in
    let columns : length c.cols.result.now ≡ length M.cols = ap length c.cols.ensures.items in
    let shape : length x ≡ length M.cols = omega arith in
    let items : length c.rows-row-items.result.now ≡ length M.rows = ap length c.rows-row-items.ensures.items in
    let within : c.loop-index.index < length M.rows = omega arith in
    let row = c.row-item.result in
    let outside : ¬ Within row.lo row.hi c.in-Ok.activity = λ h. let t : IsTrue c.is_within.result = c.is_within.ensures.1 h in let f : c.is_within.result ≡ false = search rules in cc in
    inr (shape, inr (c.loop-index.index, row-breach M x _ c.loop-index.index row c.in-Ok.activity c.rows-row-items.ensures.items within c.row-item.is c.in-Ok.ensures c.loop-index.invariant outside))

pub loop-index-preserved : goal.loop-index-preserved
loop-index-preserved c =
    let M = c.args.model.now in
    let x = c.args.point.now in
    let items : length c.rows-row-items.result.now ≡ length M.rows = ap length c.rows-row-items.ensures.items in
    let within : c.loop-index.index < length M.rows = omega arith in
    let holds : IsTrue c.is_within.result = search rules in
    below_more (RowPasses M x) c.loop-index.index c.loop-index.invariant
    (row-passes M x _ c.loop-index.index c.row-item.result c.in-Ok.activity c.rows-row-items.ensures.items within c.row-item.is c.in-Ok.ensures (c.is_within.ensures.0 holds))

pub returns : goal.returns
returns c =
    let M = c.args.model.now in
    let x = c.args.point.now in
    let numbers : length c.as_slice.result.now ≡ length x = ap length c.as_slice.ensures in
    let columns : length c.cols.result.now ≡ length M.cols = ap length c.cols.ensures.items in
    let shape : length x ≡ length M.cols = omega arith in
    let items : length c.rows-row-items.result.now ≡ length M.rows = ap length c.rows-row-items.ensures.items in
    let hold : IsTrue c.columns_hold.result = search rules in
    all-pass M x shape (c.columns_hold.ensures.0 hold) c.loop-index.index (omega arith) c.loop-index.invariant

pub returns-then-not-columns_hold : goal.returns-then-not-columns_hold
returns-then-not-columns_hold c =
    let numbers = ap length c.as_slice.ensures in
    let columns = ap length c.cols.ensures.items in
    let shape : length c.args.point.now ≡ length c.args.model.now.cols = omega (arith, numbers, columns) in
    inr (shape, inl (λ all. false≢true (sym c.if-not-columns_hold.true ∙ c.columns_hold.ensures.1 all)))

pub returns-in-Err : goal.returns-in-Err
returns-in-Err c =
    let M = c.args.model.now in
    let x = c.args.point.now in
    let numbers = ap length c.as_slice.ensures in
    let columns = ap length c.cols.ensures.items in
    let shape : length x ≡ length M.cols = omega (arith, numbers, columns) in
    let items : length c.rows-row-items.result.now ≡ length M.rows = ap length c.rows-row-items.ensures.items in
    let within : c.loop-index.index < length M.rows = omega arith in (
      c.loop-index.index,
      (
        c.in-Err.ensures.0,
        (
          record { shape = shape; columns = c.columns_hold.ensures.0 c.if-not-columns_hold.false; within = within; before = c.loop-index.invariant; here = c.in-Err.ensures.1.0 },
          c.in-Err.ensures.1.1,
        ),
      ),
    )
