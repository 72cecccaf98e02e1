use Rattle.std.proofs.Common.{ℕ, List, drop, Option}
use Rattle.cut_find.specs.Greedy.{Drops}
use Rattle.cut_find.specs.private.WholeSides.{IsWholeCover}
use Rattle.cut_find.proofs.candidates.RowSide.drop_marked.Given as goal

abbrev pub invariant-loop-place : goal.invariant-loop-place
invariant-loop-place l =
    (kept : List ℕ) × (IsWholeCover l.self.model.now l.self.row.0 l.self.side l.side kept l.left l.marks × ((o : Option (List ℕ)) → Drops l.self.model.now l.self.row.0 l.self.side kept (drop l.place l.taken) o → Drops l.self.model.now l.self.row.0 l.self.side l.taken l.taken o))
