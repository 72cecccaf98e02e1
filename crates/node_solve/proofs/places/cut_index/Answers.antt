use Rattle.node_solve.proofs.FirstCuts.{own-index, own-past}
use Rattle.node_solve.proofs.places.cut_index.Goals as goal

pub returns-then-place-count : goal.returns-then-place-count
returns-then-place-count c = own-index c.args.places.now (c.requires c.if-not-are_own.false) c.args.place c.if-place-count.true

pub returns-else-place-count : goal.returns-else-place-count
returns-else-place-count c = own-past c.args.places.now (c.requires c.if-not-are_own.false) c.args.place c.if-place-count.false
