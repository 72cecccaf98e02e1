-- The rational numbers, each in lowest terms, so that `≡` is equality of numbers.
--     x.num, den x      the numerator and the denominator of x in lowest terms
--     int n             the integer n as a rational
--     reduced n b       n / (b + 1), in lowest terms
-- The operations do not unfold: proofs go by the laws in proofs/. A number that is written out computes under a line `unfolding ◌+ℚ◌ reduced gcd below_product`.
use Rattle.std.specs.Prelude.{if◌then◌else◌, ◌≡◌, ℕ, zero, suc, ◌*◌, ◌/◌, ◌-◌, ◌<◌, ◌+◌, ℤ, pos, negsuc, ◌+ℤ◌, ◌*ℤ◌, neg_ℤ, unsigned_abs, ◌≤ℤ◌, ◌<ℤ◌, Bool, int_le}
use Rattle.std.specs.Int.{◌∣◌}
use Rattle.std.specs.Ordering.{int_cmp}
use Rattle.std.specs.declared.cmp.Ordering.{Ordering}
use Rattle.std.proofs.Common.{refl, sym, ap, ◌∙◌, arith, zero-lt-suc}
use Rattle.std.proofs.Math.Nat.{div-mul_cancel}
use Rattle.std.proofs.lemmas.Int.{ints}
use Rattle.frac128.specs.Gcd.{gcd, gcd_pos, gcd-div, gcd-one, IsGcd-gcd}

pub record ℚ : Type 0 where
  pub num : ℤ
  pub below : ℕ
  pub lowest : gcd (unsigned_abs num) (suc below) ≡ 1

abbrev pub den : ℚ → ℕ
den x = suc x.below

-- n / g, for a divisor g of n
abbrev pub quotient_by : ℤ → ℕ → ℤ
quotient_by (pos a) g = pos (a / g)
quotient_by (negsuc a) g = neg_ℤ (pos (suc a / g))

pub abs-quotient_by : (n : ℤ) (g : ℕ) → unsigned_abs (quotient_by n g) ≡ unsigned_abs n / g
abs-quotient_by (pos a) g = refl
abs-quotient_by (negsuc a) g = omega (arith, ints)

neg-mul_pos : (k g : ℕ) → neg_ℤ (pos k) *ℤ pos g ≡ neg_ℤ (pos (k * g))
neg-mul_pos zero g = ap pos zeros ∙ ap (λ n. neg_ℤ (pos n)) (sym zeros)
  where
    zeros : 0 * g ≡ 0
    zeros = omega arith
neg-mul_pos (suc k) g = refl

pub quotient_by-mul : (n : ℤ) (g : ℕ) → g ∣ unsigned_abs n → quotient_by n g *ℤ pos g ≡ n
quotient_by-mul (pos a) g h = ap pos (div-mul_cancel g h)
quotient_by-mul (negsuc a) g h = neg-mul_pos (suc a / g) g ∙ ap (λ n. neg_ℤ (pos n)) (div-mul_cancel g h)

pub suc-pred_quotient : (n : ℤ) (b : ℕ) → suc (suc b / gcd (unsigned_abs n) (suc b) - 1) ≡ suc b / gcd (unsigned_abs n) (suc b)
suc-pred_quotient n b =
    let g = gcd (unsigned_abs n) (suc b) in
    let some : 0 < g = gcd_pos (unsigned_abs n) (suc b) (zero-lt-suc b) in
    let back : suc b / g * g ≡ suc b = div-mul_cancel g ((IsGcd-gcd (unsigned_abs n) (suc b)).1) in
    positive (suc b / g) g b back
  where
    positive : (q g b : ℕ) → q * g ≡ suc b → suc (q - 1) ≡ q
    positive zero g b e = omega (arith)
    positive (suc q) g b e = omega arith

pub reduced_lowest : (n : ℤ) (b : ℕ) → gcd (unsigned_abs (quotient_by n (gcd (unsigned_abs n) (suc b)))) (suc (suc b / gcd (unsigned_abs n) (suc b) - 1)) ≡ 1
reduced_lowest n b =
    (λ i. gcd (abs-quotient_by n (gcd (unsigned_abs n) (suc b)) i) (suc-pred_quotient n b i)) ∙ gcd-div (unsigned_abs n) (suc b) (zero-lt-suc b)

-- n / (b + 1) in lowest terms
unfoldable pub reduced : ℤ → ℕ → ℚ
reduced n b =
    record { num = quotient_by n (gcd (unsigned_abs n) (suc b)); below = suc b / gcd (unsigned_abs n) (suc b) - 1; lowest = reduced_lowest n b }

-- b and d stand for the denominators b + 1 and d + 1, and this for their product
unfoldable pub below_product : ℕ → ℕ → ℕ
below_product b d = b * d + b + d

-- an integer
unfoldable pub int : ℤ → ℚ
int n = record { num = n; below = 0; lowest = gcd-one (unsigned_abs n) }

infixl 6 ◌+ℚ◌
unfoldable pub ◌+ℚ◌ : ℚ → ℚ → ℚ
x +ℚ y = reduced (x.num *ℤ pos (den y) +ℤ y.num *ℤ pos (den x)) (below_product x.below y.below)

infixl 7 ◌*ℚ◌
unfoldable pub ◌*ℚ◌ : ℚ → ℚ → ℚ
x *ℚ y = reduced (x.num *ℤ y.num) (below_product x.below y.below)

unfoldable pub neg_ℚ : ℚ → ℚ
neg_ℚ x = reduced (neg_ℤ x.num) x.below

infixl 6 ◌-ℚ◌
abbrev pub ◌-ℚ◌ : ℚ → ℚ → ℚ
x -ℚ y = x +ℚ neg_ℚ y

-- d / n for n / d, and 0 for 0
abbrev pub inverted : ℤ → ℕ → ℚ
inverted (pos zero) b = int (pos 0)
inverted (pos (suc n)) b = reduced (pos (suc b)) n
inverted (negsuc n) b = reduced (negsuc b) n

unfoldable pub inverse : ℚ → ℚ
inverse x = inverted x.num x.below

infixl 7 ◌/ℚ◌
abbrev pub ◌/ℚ◌ : ℚ → ℚ → ℚ
x /ℚ y = x *ℚ inverse y

-- the order, by the products of each numerator and the other denominator
infix 4 ◌≤ℚ◌ ◌<ℚ◌
pub record ◌≤ℚ◌ (x y : ℚ) : Type 0 where
  pub crossed : (x.num *ℤ pos (den y)) ≤ℤ (y.num *ℤ pos (den x))

pub record ◌<ℚ◌ (x y : ℚ) : Type 0 where
  pub crossed : (x.num *ℤ pos (den y)) <ℤ (y.num *ℤ pos (den x))

unfoldable pub rational_cmp : ℚ → ℚ → Ordering
rational_cmp x y = int_cmp (x.num *ℤ pos (den y)) (y.num *ℤ pos (den x))

unfoldable pub rational_le : ℚ → ℚ → Bool
rational_le x y = int_le (x.num *ℤ pos (den y)) (y.num *ℤ pos (den x))

-- the greatest integer that is at most n / d
abbrev pub floor_quotient : ℤ → ℕ → ℤ
floor_quotient (pos a) d = pos (a / d)
floor_quotient (negsuc a) d = negsuc (a / d)

unfoldable pub floor : ℚ → ℤ
floor x = floor_quotient x.num (den x)

unfoldable pub ceil : ℚ → ℤ
ceil x = neg_ℤ (floor_quotient (neg_ℤ x.num) (den x))

abbrev pub IsWhole : ℚ → Type 0
IsWhole x = den x ≡ 1

abbrev pub min_ℚ : ℚ → ℚ → ℚ
min_ℚ x y = if rational_le x y then x else y

abbrev pub max_ℚ : ℚ → ℚ → ℚ
max_ℚ x y = if rational_le x y then y else x
