-- What floor, ceil and inverse are.
use Rattle.std.specs.Prelude.{◌≡◌, ◌≢◌, ℕ, zero, suc, ◌*◌, ◌/◌, ◌<◌, ◌≤◌, [], ◌∷◌, ℤ, pos, negsuc, ◌*ℤ◌, neg_ℤ, ◌≤ℤ◌, ◌↔◌}
use Rattle.std.proofs.Common.{refl, sym, subst, ap, ◌∙◌, arith, le-div_iff_mul-le, div-lt_iff_lt-mul, zero-lt-suc, div-one}
use Rattle.std.proofs.lemmas.Int.{ints}
use Rattle.frac128.specs.Rational.{ℚ, den, reduced, below_product, int, ◌*ℚ◌, ◌≤ℚ◌, floor, ceil, floor_quotient, inverse, inverted, IsWhole}
use Rattle.frac128.specs.IntegerRing.{ring_ℤ, reads_ℤ}
use Rattle.frac128.specs.Lowest.{linear_ℤ, reduced_self, reduced-same, reduced-*ℚ}
use Rattle.frac128.specs.RationalRing.{int_is}

-- the quotient rounded down is the greatest integer whose product with d is at most n
floor_quotient-≤ : (z n : ℤ) (d : ℕ) → 0 < d → ((z *ℤ pos d) ≤ℤ n) ↔ (z ≤ℤ floor_quotient n d)
floor_quotient-≤ (pos k) (pos a) d some = (
  (λ h. let m : k * d ≤ a = omega (arith, ints) in let q = (le-div_iff_mul-le some).1 m in omega (arith, ints)),
  (λ h. let m : k ≤ a / d = omega (arith, ints) in let q = (le-div_iff_mul-le some).0 m in omega (arith, ints)),
)
floor_quotient-≤ (pos k) (negsuc a) d some = ((λ h. absurd (omega (arith, ints))), (λ h. absurd (omega (arith, ints))))
floor_quotient-≤ (negsuc k) (pos a) d some = ((λ h. omega (arith, ints)), (λ h. omega (arith, ints)))
floor_quotient-≤ (negsuc k) (negsuc a) d some = (
  (λ h. let m : a < suc k * d = omega (arith, ints) in let q = (div-lt_iff_lt-mul some).1 m in omega (arith, ints)),
  (λ h. let m : a / d < suc k = omega (arith, ints) in let q = (div-lt_iff_lt-mul some).0 m in omega (arith, ints)),
)

one_times : (n : ℤ) → n *ℤ pos 1 ≡ n
one_times n = ring_ℤ (n ∷ []) (search reads_ℤ) (search reads_ℤ) tt

-- an integer is at most x exactly when it is at most the floor of x
pub int-≤ℚ : (z : ℤ) (x : ℚ) → (int z ≤ℚ x) ↔ (z ≤ℤ floor x)
unfolding floor int
int-≤ℚ z x = (to, from)
  where
    to : int z ≤ℚ x → z ≤ℤ floor x
    to h = (floor_quotient-≤ z x.num (den x) (zero-lt-suc x.below)).0 (rw one_times at h.crossed)

    from : z ≤ℤ floor x → int z ≤ℚ x
    from h = record { crossed = rw one_times ((floor_quotient-≤ z x.num (den x) (zero-lt-suc x.below)).1 h) }

pub floor-≤ℚ : (x : ℚ) → int (floor x) ≤ℚ x
floor-≤ℚ x = (int-≤ℚ (floor x) x).1 (omega (arith, ints))

-- x is at most an integer exactly when the ceil of x is
pub ≤ℚ-int : (x : ℚ) (z : ℤ) → (x ≤ℚ int z) ↔ (ceil x ≤ℤ z)
unfolding ceil int
≤ℚ-int x z = (to, from)
  where
    negated : neg_ℤ z *ℤ pos (den x) ≡ neg_ℤ (z *ℤ pos (den x))
    negated = ring_ℤ (z ∷ pos (den x) ∷ []) (search reads_ℤ) (search reads_ℤ) tt

    same : ((neg_ℤ z *ℤ pos (den x)) ≤ℤ neg_ℤ x.num) ↔ (neg_ℤ z ≤ℤ floor_quotient (neg_ℤ x.num) (den x))
    same = floor_quotient-≤ (neg_ℤ z) (neg_ℤ x.num) (den x) (zero-lt-suc x.below)

    to : x ≤ℚ int z → ceil x ≤ℤ z
    to h = let k : x.num ≤ℤ (z *ℤ pos (den x)) = rw one_times at h.crossed in let e = negated in let m = same.0 (omega (arith, linear_ℤ)) in omega (arith, linear_ℤ)

    from : ceil x ≤ℤ z → x ≤ℚ int z
    from h = let k = same.1 (omega (arith, linear_ℤ)) in let e = negated in record { crossed = rw one_times (omega (arith, linear_ℤ)) }

pub ≤ℚ-ceil : (x : ℚ) → x ≤ℚ int (ceil x)
≤ℚ-ceil x = (≤ℚ-int x (ceil x)).1 (omega (arith, ints))

-- a whole number is its floor
pub int-floor : (x : ℚ) → IsWhole x → int (floor x) ≡ x
unfolding int floor
int-floor x whole = whole_is x.num x.below (omega arith) ∙ reduced_self x
  where
    whole_is : (n : ℤ) (b : ℕ) → b ≡ 0 → int (floor_quotient n (suc b)) ≡ reduced n b
    whole_is n b none = subst (λ k. int (floor_quotient n (suc k)) ≡ reduced n k) (sym none) (ap int (over_one n) ∙ int_is n)
      where
        over_one : (n : ℤ) → floor_quotient n 1 ≡ n
        over_one (pos a) = ap pos (div-one a)
        over_one (negsuc a) = ap negsuc (div-one a)

-- ---- the inverse

inverse_at : (x : ℚ) (n : ℤ) (b : ℕ) → n ≢ pos 0 → reduced n b *ℚ inverted n b ≡ int (pos 1)
inverse_at x (pos zero) b some = absurd (some refl)
inverse_at x (pos (suc n)) b some =
    reduced-*ℚ (pos (suc n)) (pos (suc b)) b n
    ∙ reduced-same _ (pos 1) (below_product b n) 0 (ring_ℤ (pos (suc n) ∷ pos (suc b) ∷ []) (search reads_ℤ) (search reads_ℤ) tt) ∙ sym (int_is (pos 1))
inverse_at x (negsuc n) b some =
    reduced-*ℚ (negsuc n) (negsuc b) b n
    ∙ reduced-same _ (pos 1) (below_product b n) 0 (ring_ℤ (pos (suc n) ∷ pos (suc b) ∷ []) (search reads_ℤ) (search reads_ℤ) tt) ∙ sym (int_is (pos 1))

pub num_zero : (x : ℚ) → x.num ≡ pos 0 → x ≡ int (pos 0)
num_zero x e = sym (reduced_self x) ∙ reduced-same x.num (pos 0) x.below 0 (rw e (ring_ℤ (pos (den x) ∷ []) (search reads_ℤ) (search reads_ℤ) tt)) ∙ sym (int_is (pos 0))

pub *ℚ-inverse : (x : ℚ) → x ≢ int (pos 0) → x *ℚ inverse x ≡ int (pos 1)
unfolding inverse
*ℚ-inverse x some = ap (λ z. z *ℚ inverted x.num x.below) (sym (reduced_self x)) ∙ inverse_at x x.num x.below (λ e. some (num_zero x e))
