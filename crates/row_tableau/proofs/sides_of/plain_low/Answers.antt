use Rattle.std.proofs.Common.{◌≤◌, ◌∙◌, ap, arith, length}
use Rattle.lp_model.specs.Regions.{region_low}
use Rattle.row_tableau.specs.Activities.{activity_low}
use Rattle.row_tableau.specs.Relaxations.{form_of}
use Rattle.row_tableau.proofs.SideListLemmas.{by_row}
use Rattle.row_tableau.proofs.sides_of.plain_low.Goals as goal

pub activity_low-requires : goal.activity_low-requires
activity_low-requires c =
    let same = ap length c.cols-columns.ensures.items in
    omega (arith, c.requires.within, same, c.if-variable-columns.false)

pub returns-else-variable-columns : goal.returns-else-variable-columns
returns-else-variable-columns c =
    let F = form_of c.args.relax.now in
    let M = c.args.relax.now.model.now in
    let v = c.args.variable in
    let m = length c.cols-columns.result.now in
    let same = ap length c.cols-columns.ensures.items in
    let past : m ≤ v = c.if-variable-columns.false in
    c.activity_low.ensures ∙ by_row (length M.cols) m (region_low M c.args.relax.now.region.now) (activity_low F) v same (let e : length M.cols ≤ v = omega (arith, past, same) in e)
