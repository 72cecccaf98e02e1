use Rattle.std.proofs.Common.{◌≡◌, ap, arith, length}
use Rattle.lp_model.proofs.ModelLaws.{few_rows, few_columns}
use Rattle.row_tableau.proofs.relax.Relax.variables.Goals as goal

pub overflow_add-result : goal.overflow_add-result
overflow_add-result c =
    let M = c.args.self.now.model.now in
    let lawful = c.cols-columns.ensures.lawful in
    let columns_is : length c.cols-columns.result.now ≡ length M.cols = ap length c.cols-columns.ensures.items in
    let rows_few = few_rows M lawful in
    let columns_few = few_columns M lawful in
    omega (arith, columns_is, rows_few, columns_few, c.activities.ensures, c.requires)
