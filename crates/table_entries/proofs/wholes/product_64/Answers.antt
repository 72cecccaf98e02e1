use Rattle.std.proofs.Common.{◌≡◌, ◌<◌, ◌^◌, ◌*ℤ◌, ℤ, unsigned_abs, sym, subst, arith, to_z, of_z, w64}
use Rattle.std.proofs.lemmas.Int.{ints}
use Rattle.table_entries.specs.private.Ways.{Has32Bits}
use Rattle.table_entries.proofs.WayLemmas.{read_32, slim_product}
use Rattle.table_entries.proofs.wholes.product_64.Goals as goal

made : (a b : ℤ) → Has32Bits a → Has32Bits b → to_z w64 (of_z w64 a) *ℤ to_z w64 (of_z w64 b) ≡ a *ℤ b
made a b h k = λ i. read_32 a h i *ℤ read_32 b k i

pub overflow_mul-result : goal.overflow_mul-result
overflow_mul-result c =
    let a = c.args.first in
    let b = c.args.second in
    let small : unsigned_abs (to_z w64 (of_z w64 a) *ℤ to_z w64 (of_z w64 b)) < 2 ^ 62 = subst (λ x. unsigned_abs x < 2 ^ 62) (sym (made a b c.requires.first c.requires.second)) (slim_product a b c.requires.first c.requires.second) in
    omega (arith, ints, small)

pub returns-clause-value : goal.returns-clause-value
returns-clause-value c =
    let a = c.args.first in
    let b = c.args.second in
    let is = made a b c.requires.first c.requires.second in
    let small = slim_product a b c.requires.first c.requires.second in
    omega (arith, ints, is, small)

pub returns-clause-small : goal.returns-clause-small
returns-clause-small c =
    let a = c.args.first in
    let b = c.args.second in
    let is = made a b c.requires.first c.requires.second in
    let small = slim_product a b c.requires.first c.requires.second in
    omega (arith, ints, is, small)
