use Rattle.std.proofs.Common.{◌<◌, ◌≤◌, ◌∙◌, ap, sym, None, arith, length}
use Rattle.lp_model.specs.Program.{lower}
use Rattle.lp_model.proofs.ElementLemmas.{of_element-read}
use Rattle.row_tableau.specs.Activities.{activity_low}
use Rattle.row_tableau.specs.Relaxations.{form_of}
use Rattle.row_tableau.proofs.SideListLemmas.{by_row}
use Rattle.row_tableau.proofs.TiltLemmas.{by_column}
use Rattle.row_tableau.proofs.tilts.model_low.Goals as goal

pub returns-then-variable-columns : goal.returns-then-variable-columns
returns-then-variable-columns c =
    let F = form_of c.args.relax.now in
    let M = c.args.relax.now.model.now in
    let v = c.args.variable in
    let less = c.if-variable-columns.true in
    let same = ap length c.cols-columns.ensures.items in
    let within : v < length M.cols = omega (arith, less, same) in
    ap (λ r. r.lo) (sym c.index-cols-variable.is)
    ∙ of_element-read None (λ r. r.lo) M.cols c.cols.result.now v c.index-cols-variable.result c.cols.ensures.items within c.index-cols-variable.is
    ∙ sym (by_column (length M.cols) (lower M) (activity_low F) v within)

pub activity_low-requires : goal.activity_low-requires
activity_low-requires c =
    let same = ap length c.cols-columns.ensures.items in
    omega (arith, c.requires, same, c.if-variable-columns.false)

pub returns-else-variable-columns : goal.returns-else-variable-columns
returns-else-variable-columns c =
    let F = form_of c.args.relax.now in
    let M = c.args.relax.now.model.now in
    let v = c.args.variable in
    let m = length c.cols-columns.result.now in
    let same = ap length c.cols-columns.ensures.items in
    let past : m ≤ v = c.if-variable-columns.false in
    c.activity_low.ensures ∙ by_row (length M.cols) m (lower M) (activity_low F) v same (let e : length M.cols ≤ v = omega (arith, past, same) in e)
