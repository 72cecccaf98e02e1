use Rattle.std.proofs.Common.{◌*◌}
use Rattle.table_entries.specs.WholeSteps.{AreShort, AreWritten}
use Rattle.table_entries.proofs.same_rows.write_rows_over_same.Given as goal

abbrev pub invariant-loop-at_row : goal.invariant-loop-at_row
invariant-loop-at_row l = record {
  written : AreWritten l.columns l.row l.place l.denominator l.denominator l.numbers l.unwritten l.next (l.at_row * l.columns);
  short : AreShort l.next;
}
