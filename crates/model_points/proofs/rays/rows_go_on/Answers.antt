use Rattle.std.proofs.Common.{rules, ◌≡◌, ◌<◌, length, arith, ap, below_more, IsTrue, false, subst}
use Rattle.model_points.specs.Rays.{GoesOn, RowIsKept, RowsAreKept}
use Rattle.model_points.proofs.RayLemmas.{row-kept, row-passed, row-wide}
use Rattle.model_points.proofs.rays.rows_go_on.Goals as goal

pub returns-in-Err : goal.returns-in-Err
returns-in-Err c =
    let M = c.args.model.now in
    let items : length c.rows-row-items.result.now ≡ length M.rows = ap length c.rows-row-items.ensures.items in
    row-wide M c.args.direction.now c.loop-index.index c.in-Err.step (omega arith) c.loop-index.invariant c.in-Err.ensures

pub returns-then-not-goes_on : goal.returns-then-not-goes_on
returns-then-not-goes_on c =
    let M = c.args.model.now in
    let items : length c.rows-row-items.result.now ≡ length M.rows = ap length c.rows-row-items.ensures.items in
    let within : c.loop-index.index < length M.rows = omega arith in
    let row = c.row-item.result in
    let outside : ¬ GoesOn row.lo row.hi c.in-Ok.activity = λ h. let t : IsTrue c.goes_on.result = c.goes_on.ensures.1 h in let f : c.goes_on.result ≡ false = search rules in cc in
    (c.loop-index.index, row-passed M c.args.direction.now _ c.loop-index.index row c.in-Ok.activity c.rows-row-items.ensures.items within c.row-item.is c.in-Ok.ensures c.loop-index.invariant outside)

pub loop-index-preserved : goal.loop-index-preserved
loop-index-preserved c =
    let M = c.args.model.now in
    let items : length c.rows-row-items.result.now ≡ length M.rows = ap length c.rows-row-items.ensures.items in
    let within : c.loop-index.index < length M.rows = omega arith in
    let goes : IsTrue c.goes_on.result = search rules in
    below_more (RowIsKept M c.args.direction.now) c.loop-index.index c.loop-index.invariant
    (row-kept M c.args.direction.now _ c.loop-index.index c.row-item.result c.in-Ok.activity c.rows-row-items.ensures.items within c.row-item.is c.in-Ok.ensures (c.goes_on.ensures.0 goes))

pub returns : goal.returns
returns c =
    let M = c.args.model.now in
    let items : length c.rows-row-items.result.now ≡ length M.rows = ap length c.rows-row-items.ensures.items in
    let all : c.loop-index.index ≡ length M.rows = omega arith in
    subst (RowsAreKept M c.args.direction.now) all c.loop-index.invariant
