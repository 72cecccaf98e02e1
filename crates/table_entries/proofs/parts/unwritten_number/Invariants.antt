use Rattle.std.proofs.Common.{◌≡◌, get_or}
use Rattle.table_entries.specs.Parts.{row_coefficient}
use Rattle.table_entries.specs.private.Parts.{slot_number, combined}
use Rattle.table_entries.proofs.parts.unwritten_number.Given as goal

abbrev pub invariant-loop-column : goal.invariant-loop-column
invariant-loop-column l = record {
  total : l.total ≡ combined (row_coefficient l.columns l.coefficients l.row) (λ j. slot_number l.rows l.columns l.entries (get_or l.slots j 0) l.place) l.column;
}
