use Rattle.std.proofs.Common.{arith}
use Rattle.std.proofs.lemmas.List.{length-map}
use Rattle.lp_model.specs.declared.types.Row.{Row}
use Rattle.lp_model.proofs.ModelLaws.{few_rows}
use Rattle.model_edits.proofs.removing.row_id_at.Goals as goal

pub overflow_cast-result : goal.overflow_cast-result
overflow_cast-result c =
    let M = c.args.model.now in
    let n = length-map M.rows (λ (d : Row). d.name) in
    let w = c.in-Ok.ensures.found.within in
    let few = few_rows M c.rows-lawful.ensures.lawful in
    omega (arith, n, w, few)

pub returns-in-Err-clause-fault : goal.returns-in-Err-clause-fault
returns-in-Err-clause-fault c = c.in-Err.ensures.fault

pub returns-clause-found : goal.returns-clause-found
returns-clause-found c = c.in-Ok.ensures.found
