-- Short numbers as 64 bits are read: what the code sees of them is the number.
use Rattle.std.specs.Prelude.{◌≡◌, ◌^◌, ◌≤◌, ◌-ℤ◌, ℤ, unsigned_abs}
use Rattle.std.specs.Int.{w128}
use Rattle.std.proofs.Common.{sym, ap, subst, ◌∙◌, arith, to_z, of_z, w64}
use Rattle.std.proofs.lemmas.Int.{ints}
pub use Rattle.whole_sums.proofs.ReadLemmas.{short_read, short_again, positive_again}
use Rattle.table_entries.specs.WholeSteps.{IsShort}

-- the same of a number that is a short one
pub short_as : (m n : ℤ) → m ≡ n → IsShort n → to_z w64 (of_z w64 m) ≡ n
short_as m n e h = ap (λ x. to_z w64 (of_z w64 x)) e ∙ short_read n h

pub short_as_again : (m n : ℤ) → m ≡ n → IsShort n → IsShort (to_z w64 (of_z w64 m))
short_as_again m n e h = subst IsShort (sym (short_as m n e h)) h

-- products of short numbers and their sums
pub product_read : (n : ℤ) → unsigned_abs n ≤ 2 ^ 126 → to_z w128 (of_z w128 n) ≡ n
product_read n h = omega (arith, ints, h)

pub difference_read : (a b : ℤ) → unsigned_abs a ≤ 2 ^ 124 → unsigned_abs b ≤ 2 ^ 124 → to_z w128 (of_z w128 (to_z w128 (of_z w128 a) -ℤ to_z w128 (of_z w128 b))) ≡ a -ℤ b
difference_read a b h k = omega (arith, ints, h, k)
