use Rattle.std.proofs.Common.{ℕ, drop, length}
use Rattle.cut_find.specs.RowEntries.{AreEntriesOf}
use Rattle.cut_find.proofs.candidates.RowSide.lacks_bound.Given as goal

abbrev pub invariant-loop-entry : goal.invariant-loop-entry
invariant-loop-entry l = (from : ℕ) × AreEntriesOf l.self.model.now l.self.row.0 from (length l.self.model.now.cols) (drop l.entry-index l.self.entries.now)
