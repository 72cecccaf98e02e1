use Rattle.std.proofs.Common.{ℕ}
use Rattle.cut_find.proofs.ColumnLemmas.{AreRowsBelow}
use Rattle.cut_find.proofs.row_entries.add_column.Given as goal

abbrev pub invariant-loop-entry : goal.invariant-loop-entry
invariant-loop-entry l = (from : ℕ) × AreRowsBelow l.model l.col l.entry-items l.entry-index from l.rows
