use Rattle.std.proofs.Common.{◌≤◌, ◌∙◌, ap, arith, length}
use Rattle.lp_model.specs.Regions.{region_high}
use Rattle.row_tableau.specs.Activities.{activity_high}
use Rattle.row_tableau.specs.Relaxations.{form_of}
use Rattle.row_tableau.proofs.SideListLemmas.{by_row}
use Rattle.row_tableau.proofs.sides_of.plain_high.Goals as goal

pub activity_high-requires : goal.activity_high-requires
activity_high-requires c =
    let same = ap length c.cols-columns.ensures.items in
    omega (arith, c.requires.within, same, c.if-variable-columns.false)

pub returns-else-variable-columns : goal.returns-else-variable-columns
returns-else-variable-columns c =
    let F = form_of c.args.relax.now in
    let M = c.args.relax.now.model.now in
    let v = c.args.variable in
    let m = length c.cols-columns.result.now in
    let same = ap length c.cols-columns.ensures.items in
    let past : m ≤ v = c.if-variable-columns.false in
    c.activity_high.ensures ∙ by_row (length M.cols) m (region_high M c.args.relax.now.region.now) (activity_high F) v same (let e : length M.cols ≤ v = omega (arith, past, same) in e)
