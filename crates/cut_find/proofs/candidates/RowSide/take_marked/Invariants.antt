use Rattle.std.proofs.Common.{ℕ, [], List, take, drop, Option}
use Rattle.cut_find.specs.Greedy.{TakesGreedily}
use Rattle.cut_find.specs.private.WholeSides.{IsWholeCover}
use Rattle.cut_find.proofs.candidates.RowSide.take_marked.Given as goal

abbrev pub invariant-loop-place : goal.invariant-loop-place
invariant-loop-place l = record {
  cover : IsWholeCover l.self.model.now l.self.row.0 l.self.side l.side (take l.place l.order) l.total l.marks;
  back : (o : Option (List ℕ)) → TakesGreedily l.self.model.now l.self.row.0 l.self.side (take l.place l.order) (drop l.place l.order) o → TakesGreedily l.self.model.now l.self.row.0 l.self.side [] l.order o;
}
