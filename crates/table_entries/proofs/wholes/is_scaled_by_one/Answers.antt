use Rattle.std.proofs.Common.{arith}
use Rattle.std.proofs.lemmas.Int.{ints}
use Rattle.table_entries.proofs.WayLemmas.{nothing_scaled, one_scaled}
use Rattle.table_entries.proofs.wholes.is_scaled_by_one.Goals as goal

pub returns-then-entry-eq0 : goal.returns-then-entry-eq0
returns-then-entry-eq0 c = λ t. let w = c.args.way.now in nothing_scaled c.args.entry w.divisor w.scale w.multiplier (let e = c.if-entry-eq0.true in omega (arith, ints, e))

pub returns : goal.returns
returns c = λ t. let w = c.args.way.now in one_scaled c.args.entry w.divisor w.scale w.multiplier (let e = c.if-way.false in omega (arith, ints, e)) (let f = c.if-way-ne1.false in omega (arith, ints, f))
