use Rattle.std.proofs.Common.{◌≡◌, ℕ, ℤ, List, drop, length}
use Rattle.cut_find.specs.Greedy.{literals_below}
use Rattle.cut_find.specs.RowEntries.{AreEntriesOf}
use Rattle.cut_find.specs.WholeSides.{AreMarksOf, AreCandidateColumns}
use Rattle.cut_find.proofs.candidates.RowSide.marked_cover.Given as goal

abbrev pub invariant-loop-entry : goal.invariant-loop-entry
invariant-loop-entry l =
    (from : ℕ) × (AreEntriesOf l.self.model.now l.self.row.0 from (length l.self.model.now.cols) (drop l.entry-index l.self.entries.now)
    × ((d : ℤ) (js : List ℕ) → AreMarksOf l.self.model.now l.self.row.0 l.self.side d js l.marks → AreCandidateColumns l.self.model.now l.self.row.0 l.self.side js → l.literals ≡ literals_below l.self.model.now l.self.row.0 l.self.side from js))
