use Rattle.std.proofs.Common.{sym, subst}
use Rattle.cut_find.specs.Greedy.{IsOrderAnswer}
use Rattle.cut_find.specs.WholeSides.{AreCandidateColumns}
use Rattle.cut_find.proofs.CandidateLemmas.{order_candidates}
use Rattle.cut_find.proofs.candidates.RowSide.greedy_cover.Goals as goal

pub cover_in_order-cover-requires-clause-order : goal.cover_in_order-cover-requires-clause-order
cover_in_order-cover-requires-clause-order c =
    let self = c.args.self.now in
    let M = self.model.now in
    let found = subst (IsOrderAnswer M self.row.0 self.side self.numbers.now) c.in-Some.is c.in-Ok.ensures in
    subst (AreCandidateColumns M self.row.0 self.side) (sym c.as_slice.ensures) (order_candidates M self.row.0 self.side self.numbers.now c.in-Some.order found)
