use Rattle.std.proofs.Common.{◌≡◌, length}
use Rattle.cut_find.specs.RowEntries.{AreRowsTo}
use Rattle.cut_find.proofs.row_entries.row_entries.Given as goal

abbrev pub invariant-loop-col : goal.invariant-loop-col
invariant-loop-col l = record {
  long : length l.rows.items ≡ length l.model.rows;
  rows : AreRowsTo l.model l.col l.rows.items;
}
