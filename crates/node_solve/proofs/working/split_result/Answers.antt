use Rattle.std.proofs.Common.{arith}
use Rattle.lp_model.proofs.ModelLaws.{few_columns}
use Rattle.node_solve.proofs.working.split_result.Goals as goal

pub overflow_cast-result : goal.overflow_cast-result
overflow_cast-result c =
    let few = few_columns c.args.model.now c.cols-lawful.ensures.lawful in
    let below = c.requires in
    omega (arith, few, below)
