use Rattle.std.proofs.Common.{sym}
use Rattle.leaf_dual.proofs.NamedColumns.{unnamed-low, unnamed-high}
use Rattle.leaf_dual.proofs.whole_leaf.WholeLeaf.changes_of.Goals as goal

pub returns-then-is_unmarked-clause-low : goal.returns-then-is_unmarked-clause-low
returns-then-is_unmarked-clause-low c = λ b.
    let t = c.if-is_unmarked.true in
    let j = c.args.col in
    sym (unnamed-low c.args.self.now.leaf.region.now j (c.requires.whole.named j (c.is_unmarked.ensures.within t) (c.is_unmarked.ensures.value t)) b)

pub returns-then-is_unmarked-clause-high : goal.returns-then-is_unmarked-clause-high
returns-then-is_unmarked-clause-high c = λ b.
    let t = c.if-is_unmarked.true in
    let j = c.args.col in
    sym (unnamed-high c.args.self.now.leaf.region.now j (c.requires.whole.named j (c.is_unmarked.ensures.within t) (c.is_unmarked.ensures.value t)) b)
