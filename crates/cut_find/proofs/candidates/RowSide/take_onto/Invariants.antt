use Rattle.std.proofs.Common.{drop, Option, List, ℕ, []}
use Rattle.cut_find.specs.Greedy.{TakesGreedily}
use Rattle.cut_find.proofs.candidates.RowSide.take_onto.Given as goal

abbrev pub invariant-loop-column : goal.invariant-loop-column
invariant-loop-column l = (o : Option (List ℕ)) → TakesGreedily l.self.model.now l.self.row.0 l.self.side l.taken (drop l.column-index l.order) o → TakesGreedily l.self.model.now l.self.row.0 l.self.side [] l.order o
