use Rattle.std.proofs.Common.{arith}
use Rattle.table_entries.proofs.same_rows.next_entry.Goals as goal

pub returns-then-known-place-clause-next : goal.returns-then-known-place-clause-next
returns-then-known-place-clause-next c = λ row numbers nexts j from below. absurd (omega (arith, from, below))

pub returns-then-nexts-place-clause-next : goal.returns-then-nexts-place-clause-next
returns-then-nexts-place-clause-next c = λ row numbers nexts j from below. absurd (omega (arith, from, below))

pub returns-then-far-place-clause-next : goal.returns-then-far-place-clause-next
returns-then-far-place-clause-next c = λ row numbers nexts j from below. absurd (omega (arith, from, below))

pub returns-then-columns-far-clause-next : goal.returns-then-columns-far-clause-next
returns-then-columns-far-clause-next c = λ row numbers nexts j from below. let far = c.if-columns-far.true in nexts c.args.place c.if-known-place.false j from (omega (arith, below, far))

pub returns-clause-next : goal.returns-clause-next
returns-clause-next c = λ row numbers nexts. nexts c.args.place c.if-known-place.false
