use Rattle.std.proofs.Common.{subst}
use Rattle.cert_check.proofs.PlaceLemmas.{column_told, column_found}
use Rattle.cert_check.proofs.names.column_place.Goals as goal

pub returns : goal.returns
returns c = column_found c.args.model.now c.args.name.now c.find_col.result c.cols-lawful.ensures.lawful.columns_distinct (subst (λ n. column_told c.args.model.now n c.find_col.result) c.as_slice.ensures c.find_col.ensures)
