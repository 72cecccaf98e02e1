-- Integers that have room, as 64 or 128 bits are read.
use Rattle.std.specs.Prelude.{◌≡◌, ◌^◌, ◌<◌, ◌≤◌, ◌-ℤ◌, ◌*ℤ◌, ℤ, pos, unsigned_abs}
use Rattle.std.specs.Int.{w128}
use Rattle.std.proofs.Common.{FitsSigned, ◌∙◌, arith, to_z, of_z, w64}
use Rattle.std.proofs.lemmas.Int.{ints, to_z-of_z}
use Rattle.frac128.specs.Range.{IsNarrow}
use Rattle.frac128.proofs.Terms.{word_product}

pub narrow_fits : (n : ℤ) → IsNarrow n → FitsSigned w128 n
narrow_fits n h = omega (arith, ints, h)

pub word_fits : (n : ℤ) → unsigned_abs n < 2 ^ 63 → FitsSigned w64 n
word_fits n h = omega (arith, ints, h)

small_narrow : (n : ℤ) → unsigned_abs n ≤ 2 ^ 126 → IsNarrow n
small_narrow n h = omega (arith, h)

pub word_product_narrow : (a b : ℤ) → unsigned_abs a < 2 ^ 63 → unsigned_abs b < 2 ^ 63 → IsNarrow (a *ℤ b)
word_product_narrow a b h k = small_narrow (a *ℤ b) (word_product a b h k)

pub word_product_fits : (a b : ℤ) → unsigned_abs a < 2 ^ 63 → unsigned_abs b < 2 ^ 63 → FitsSigned w128 (a *ℤ b)
word_product_fits a b h k = narrow_fits (a *ℤ b) (word_product_narrow a b h k)

pub narrow_read : (n : ℤ) → IsNarrow n → to_z w128 (of_z w128 n) ≡ n
narrow_read n h = to_z-of_z w128 n (narrow_fits n h)

-- the same of the negative
negated_fits : (n : ℤ) → IsNarrow n → FitsSigned w128 (pos 0 -ℤ n)
negated_fits n h = omega (arith, ints, h)

pub negated_read : (n : ℤ) → IsNarrow n → to_z w128 (of_z w128 (pos 0 -ℤ to_z w128 (of_z w128 n))) ≡ pos 0 -ℤ n
negated_read n h = (λ i. to_z w128 (of_z w128 (pos 0 -ℤ narrow_read n h i))) ∙ to_z-of_z w128 (pos 0 -ℤ n) (negated_fits n h)
