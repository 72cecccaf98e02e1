use Rattle.std.proofs.Common.{subst}
use Rattle.cert_check.proofs.PlaceLemmas.{row_told, row_found, rows_differ}
use Rattle.cert_check.proofs.names.row_place.Goals as goal

pub returns : goal.returns
returns c = row_found c.args.model.now c.args.name.now c.find_row.result (rows_differ c.args.model.now c.rows-lawful.ensures.lawful.rows_distinct) (subst (λ n. row_told c.args.model.now n c.find_row.result) c.as_slice.ensures c.find_row.ensures)
