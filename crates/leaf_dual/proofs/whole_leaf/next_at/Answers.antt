use Rattle.std.proofs.Common.{arith}
use Rattle.leaf_dual.proofs.whole_leaf.next_at.Goals as goal

pub returns-then-known-place-clause-next : goal.returns-then-known-place-clause-next
returns-then-known-place-clause-next c = λ numbers nexts j from below. absurd (omega (arith, from, below))

pub returns-then-next-place-clause-next : goal.returns-then-next-place-clause-next
returns-then-next-place-clause-next c = λ numbers nexts j from below. absurd (omega (arith, from, below))

pub returns-then-far-place-clause-next : goal.returns-then-far-place-clause-next
returns-then-far-place-clause-next c = λ numbers nexts j from below. absurd (omega (arith, from, below))

pub returns-clause-next : goal.returns-clause-next
returns-clause-next c = λ numbers nexts. nexts c.args.place c.if-known-place.false
