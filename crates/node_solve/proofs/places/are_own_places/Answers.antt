use Rattle.std.proofs.Common.{◌≡◌, get_or, below_more}
use Rattle.node_solve.proofs.places.are_own_places.Goals as goal

pub loop-index-preserved : goal.loop-index-preserved
loop-index-preserved c = below_more (λ i. get_or c.args.places.now i 0 ≡ i) c.loop-index.index c.loop-index.invariant c.if-places-index.false
