-- Integers among the rationals: their order, whole numbers, and what lies between two of them.
use Rattle.std.specs.Prelude.{◌≡◌, ◌⊎◌, ◌↔◌, ℕ, zero, suc, ◌<◌, [], ◌∷◌, ℤ, pos, ◌+ℤ◌, ◌*ℤ◌, neg_ℤ, unsigned_abs, ◌≤ℤ◌}
use Rattle.std.proofs.Common.{refl, sym, subst, ap, ap₂, ◌∙◌, arith, inl, inr}
use Rattle.std.proofs.lemmas.Int.{ints, by_lt_z}
use Rattle.frac128.specs.Gcd.{gcd}
use Rattle.frac128.specs.Rational.{ℚ, den, reduced, int, ◌+ℚ◌, ◌*ℚ◌, neg_ℚ, ◌≤ℚ◌, ◌<ℚ◌, floor, IsWhole}
use Rattle.frac128.specs.Sums.{sum_below}
use Rattle.frac128.specs.IntegerRing.{ring_ℤ, reads_ℤ}
use Rattle.frac128.specs.Lowest.{linear_ℤ, reduced_self, num-reduced, below-reduced}
use Rattle.frac128.specs.RationalRing.{int_is, int-+ℤ, int-*ℤ, int-neg_ℤ}
use Rattle.frac128.specs.RationalOrder.{≤ℚ_trans, <ℚ_from_not}
use Rattle.frac128.proofs.Rounding.{int-≤ℚ, floor-≤ℚ, int-floor}

pub int-≤ℚ-int : (a b : ℤ) → (int a ≤ℚ int b) ↔ (a ≤ℤ b)
unfolding int
int-≤ℚ-int a b = (to, from)
  where
    over_one : (n : ℤ) → n *ℤ pos 1 ≡ n
    over_one n = ring_ℤ (n ∷ []) (search reads_ℤ) (search reads_ℤ) tt

    to : int a ≤ℚ int b → a ≤ℤ b
    to h = let k = h.crossed in let e = over_one a in let f = over_one b in omega (arith, linear_ℤ)

    from : a ≤ℤ b → int a ≤ℚ int b
    from h = let e = over_one a in let f = over_one b in record { crossed = omega (arith, linear_ℤ) }

pub int_injective : (a b : ℤ) → int a ≡ int b → a ≡ b
unfolding int
int_injective a b e = ap (λ x. x.num) e

-- x lies below the next integer after its floor
pub <ℚ-floor_next : (x : ℚ) → x <ℚ int (floor x +ℤ pos 1)
<ℚ-floor_next x = <ℚ_from_not x (int (floor x +ℤ pos 1)) (λ h. let k = (int-≤ℚ (floor x +ℤ pos 1) x).0 h in absurd (omega (arith, ints)))

-- no integer lies strictly between the floor and the next: the two branches of a branching step
pub branches : (x : ℚ) (z : ℤ) → (int z ≤ℚ int (floor x)) ⊎ (int (floor x +ℤ pos 1) ≤ℚ int z)
branches x z = by_lt_z (floor x) z (λ h. inr ((int-≤ℚ-int (floor x +ℤ pos 1) z).1 (omega (arith, ints)))) (λ h. inl ((int-≤ℚ-int z (floor x)).1 h))

pub floor-mono : (x y : ℚ) → x ≤ℚ y → floor x ≤ℤ floor y
floor-mono x y h = (int-≤ℚ (floor x) y).0 (≤ℚ_trans (floor-≤ℚ x) h)

-- ---- whole numbers

pub IsWhole-int : (z : ℤ) → IsWhole (int z)
unfolding int
IsWhole-int z = refl

pub IsWhole-+ℚ : (x y : ℚ) → IsWhole x → IsWhole y → IsWhole (x +ℚ y)
IsWhole-+ℚ x y h k = subst IsWhole (int-+ℤ (floor x) (floor y) ∙ ap₂ ◌+ℚ◌ (int-floor x h) (int-floor y k)) (IsWhole-int (floor x +ℤ floor y))

pub IsWhole-*ℚ : (x y : ℚ) → IsWhole x → IsWhole y → IsWhole (x *ℚ y)
IsWhole-*ℚ x y h k = subst IsWhole (int-*ℤ (floor x) (floor y) ∙ ap₂ ◌*ℚ◌ (int-floor x h) (int-floor y k)) (IsWhole-int (floor x *ℤ floor y))

pub IsWhole-neg_ℚ : (x : ℚ) → IsWhole x → IsWhole (neg_ℚ x)
IsWhole-neg_ℚ x h = subst IsWhole (int-neg_ℤ (floor x) ∙ ap neg_ℚ (int-floor x h)) (IsWhole-int (neg_ℤ (floor x)))

-- whole terms have a whole sum
pub IsWhole-sum_below : (n : ℕ) (f : ℕ → ℚ) → ((k : ℕ) → k < n → IsWhole (f k)) → IsWhole (sum_below n f)
IsWhole-sum_below zero f h = IsWhole-int (pos 0)
IsWhole-sum_below (suc n) f h = IsWhole-+ℚ (sum_below n f) (f n) (IsWhole-sum_below n f (λ k below. h k (omega arith))) (h n (omega arith))

-- a whole number is its numerator
pub int-num : (x : ℚ) → IsWhole x → x ≡ int x.num
int-num x whole = let none : x.below ≡ 0 = omega arith in sym (reduced_self x) ∙ ap (reduced x.num) none ∙ sym (int_is x.num)

-- ---- the opposite has the opposite numerator and the same denominator

opposite_lowest : (x : ℚ) → gcd (unsigned_abs (neg_ℤ x.num)) (den x) ≡ 1
opposite_lowest x = ap (λ n. gcd n (den x)) (same x.num) ∙ x.lowest
  where
    same : (n : ℤ) → unsigned_abs (neg_ℤ n) ≡ unsigned_abs n
    same n = omega (arith, ints)

pub num-neg_ℚ : (x : ℚ) → (neg_ℚ x).num ≡ neg_ℤ x.num
unfolding neg_ℚ
num-neg_ℚ x = num-reduced (neg_ℤ x.num) x.below (opposite_lowest x)

pub den-neg_ℚ : (x : ℚ) → den (neg_ℚ x) ≡ den x
unfolding neg_ℚ
den-neg_ℚ x = ap suc (below-reduced (neg_ℤ x.num) x.below (opposite_lowest x))
