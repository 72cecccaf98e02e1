use Rattle.std.proofs.Common.{arith}
use Rattle.std.proofs.lemmas.Int.{ints}
use Rattle.std.proofs.lemmas.Bool.{and_parts}
use Rattle.table_entries.proofs.wholes.are_32.Goals as goal

pub returns-clause-first : goal.returns-clause-first
returns-clause-first c = λ t. let range = c.ranges.first in let h = c.has_32_bits.ensures (and_parts c.has_32_bits.result c.has_32_bits-2.result t).0 in omega (arith, ints, range, h)

pub returns-clause-second : goal.returns-clause-second
returns-clause-second c = λ t. let range = c.ranges.second in let h = c.has_32_bits-2.ensures (and_parts c.has_32_bits.result c.has_32_bits-2.result t).1 in omega (arith, ints, range, h)
