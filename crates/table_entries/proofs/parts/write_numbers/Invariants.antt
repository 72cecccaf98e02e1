use Rattle.table_entries.specs.private.Parts.{IsSummedRow, IsRowTouched}
use Rattle.std.proofs.Common.{get_or}
use Rattle.table_entries.proofs.parts.write_numbers.Given as goal

abbrev pub invariant-loop-column : goal.invariant-loop-column
invariant-loop-column l = record {
  touched : IsRowTouched l.columns l.row l.fn.entries l.entries;
  front : IsSummedRow l.rows l.columns l.fn.entries l.coefficients (λ j. get_or l.slots j 0) l.row l.column l.entries.numbers;
}
