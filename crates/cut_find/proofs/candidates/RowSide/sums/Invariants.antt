use Rattle.std.proofs.Common.{ℕ, drop, length}
use Rattle.cut_find.specs.RowEntries.{AreEntriesOf}
use Rattle.cut_find.specs.private.WholeSides.{AreSumsTo}
use Rattle.cut_find.proofs.candidates.RowSide.sums.Given as goal

abbrev pub invariant-loop-entry : goal.invariant-loop-entry
invariant-loop-entry l =
    (from : ℕ) × (AreEntriesOf l.self.model.now l.self.row.0 from (length l.self.model.now.cols) (drop l.entry-index l.self.entries.now) × AreSumsTo l.self.model.now l.self.row.0 l.self.side l.denominator from l.sums)
