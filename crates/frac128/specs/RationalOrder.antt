-- The order of the rationals. `linear` proves an order from one that is at hand: where both sides differ by the same amount, up to a number written out that is at least 0.
use Rattle.std.specs.Prelude.{◌≡◌, ℕ, zero, suc, ◌*◌, ◌<◌, List, [], ◌∷◌, ℤ, pos, negsuc, ◌+ℤ◌, ◌*ℤ◌, neg_ℤ, ◌≤ℤ◌, ◌<ℤ◌, T, Bool, true, false, ◌&&◌, ◌||◌, ◌⊎◌, ◌↔◌}
use Rattle.std.proofs.Common.{subst, ap, ◌∙◌, arith, inl, inr, ⊎_elim, mul-pos}
use mathlib.Core.Path.{subst₂}
use Rattle.std.proofs.lemmas.Int.{ints, by_lt_z}
use Rattle.frac128.specs.Rational.{ℚ, den, reduced, below_product, int, ◌+ℚ◌, ◌*ℚ◌, neg_ℚ, ◌-ℚ◌, ◌≤ℚ◌, ◌<ℚ◌}
use Rattle.frac128.specs.Ring.{Term, Polynomial, Monomial, polynomial_value, monomial_value, is_zero_ℤ, normal, normal-value, mul-zero}
use Rattle.frac128.specs.Ring.Term.{minus}
use Rattle.frac128.specs.IntegerRing.{ring_ℤ, reads_ℤ}
use Rattle.frac128.specs.Lowest.{linear_ℤ, same_ℚ, reduced_self, reduced-+ℚ, reduced-neg_ℚ, reduced-≤ℚ, reduced-<ℚ}
use Rattle.frac128.specs.RationalRing.{int_is, rationals, rationals_ring, Reads_ℚ, reads_ℚ, ring, *ℚ_comm}

-- ---- the order and the sign of a difference

module _ (a c : ℤ) (b d : ℕ) where
  difference_is : reduced c d -ℚ reduced a b ≡ reduced (c *ℤ pos (suc b) +ℤ neg_ℤ a *ℤ pos (suc d)) (below_product d b)
  difference_is = ap (λ t. reduced c d +ℚ t) (reduced-neg_ℚ a b) ∙ reduced-+ℚ c (neg_ℤ a) d b

  -- both sides of `reduced-≤ℚ` at 0 and that difference
  zero_side : pos 0 *ℤ pos (suc (below_product d b)) ≡ pos 0
  zero_side = ring_ℤ (pos (suc (below_product d b)) ∷ []) (search reads_ℤ) (search reads_ℤ) tt

  difference_side : (c *ℤ pos (suc b) +ℤ neg_ℤ a *ℤ pos (suc d)) *ℤ pos 1 ≡ c *ℤ pos (suc b) +ℤ neg_ℤ (a *ℤ pos (suc d))
  difference_side = ring_ℤ (a ∷ c ∷ pos (suc b) ∷ pos (suc d) ∷ []) (search reads_ℤ depth 9) (search reads_ℤ depth 9) tt

  sign-≤ : (reduced a b ≤ℚ reduced c d) ↔ (int (pos 0) ≤ℚ reduced c d -ℚ reduced a b)
  sign-≤ = (to, from)
    where
      at_zero : (pos 0 *ℤ pos (suc (below_product d b))) ≤ℤ ((c *ℤ pos (suc b) +ℤ neg_ℤ a *ℤ pos (suc d)) *ℤ pos 1) ↔ (reduced (pos 0) 0 ≤ℚ reduced (c *ℤ pos (suc b) +ℤ neg_ℤ a *ℤ pos (suc d)) (below_product d b))
      at_zero = reduced-≤ℚ (pos 0) (c *ℤ pos (suc b) +ℤ neg_ℤ a *ℤ pos (suc d)) 0 (below_product d b)

      to : reduced a b ≤ℚ reduced c d → int (pos 0) ≤ℚ reduced c d -ℚ reduced a b
      to h = let k = (reduced-≤ℚ a c b d).1 h in rw (int_is, difference_is) (at_zero.0 (rw (zero_side, difference_side) (omega (arith, linear_ℤ))))

      from : int (pos 0) ≤ℚ reduced c d -ℚ reduced a b → reduced a b ≤ℚ reduced c d
      from h = let k = rw (zero_side, difference_side) at (at_zero.1 (rw (int_is, difference_is) at h)) in (reduced-≤ℚ a c b d).0 (omega (arith, linear_ℤ))

  sign-< : (reduced a b <ℚ reduced c d) ↔ (int (pos 0) <ℚ reduced c d -ℚ reduced a b)
  sign-< = (to, from)
    where
      at_zero : (pos 0 *ℤ pos (suc (below_product d b))) <ℤ ((c *ℤ pos (suc b) +ℤ neg_ℤ a *ℤ pos (suc d)) *ℤ pos 1) ↔ (reduced (pos 0) 0 <ℚ reduced (c *ℤ pos (suc b) +ℤ neg_ℤ a *ℤ pos (suc d)) (below_product d b))
      at_zero = reduced-<ℚ (pos 0) (c *ℤ pos (suc b) +ℤ neg_ℤ a *ℤ pos (suc d)) 0 (below_product d b)

      to : reduced a b <ℚ reduced c d → int (pos 0) <ℚ reduced c d -ℚ reduced a b
      to h = let k = (reduced-<ℚ a c b d).1 h in rw (int_is, difference_is) (at_zero.0 (rw (zero_side, difference_side) (omega (arith, linear_ℤ))))

      from : int (pos 0) <ℚ reduced c d -ℚ reduced a b → reduced a b <ℚ reduced c d
      from h = let k = rw (zero_side, difference_side) at (at_zero.1 (rw (int_is, difference_is) at h)) in (reduced-<ℚ a c b d).0 (omega (arith, linear_ℤ))

pub ≤ℚ-sub : (x y : ℚ) → (x ≤ℚ y) ↔ (int (pos 0) ≤ℚ y -ℚ x)
≤ℚ-sub x y = subst₂ (λ x y. (x ≤ℚ y) ↔ (int (pos 0) ≤ℚ y -ℚ x)) (reduced_self x) (reduced_self y) (sign-≤ x.num y.num x.below y.below)

pub <ℚ-sub : (x y : ℚ) → (x <ℚ y) ↔ (int (pos 0) <ℚ y -ℚ x)
<ℚ-sub x y = subst₂ (λ x y. (x <ℚ y) ↔ (int (pos 0) <ℚ y -ℚ x)) (reduced_self x) (reduced_self y) (sign-< x.num y.num x.below y.below)

-- the sign of a rational is its numerator's
num_is : (x : ℚ) → (x.num *ℤ pos 1 ≡ x.num) × (pos 0 *ℤ pos (den x) ≡ pos 0)
num_is x = (ring_ℤ (x.num ∷ []) (search reads_ℤ) (search reads_ℤ) tt, ring_ℤ (pos (den x) ∷ []) (search reads_ℤ) (search reads_ℤ) tt)

pub nonnegative_num : (x : ℚ) → (int (pos 0) ≤ℚ x) ↔ (pos 0 ≤ℤ x.num)
unfolding int
nonnegative_num x = (to, from)
  where
    to : int (pos 0) ≤ℚ x → pos 0 ≤ℤ x.num
    to h = let e = num_is x in let k = h.crossed in omega (arith, linear_ℤ)

    from : pos 0 ≤ℤ x.num → int (pos 0) ≤ℚ x
    from h = let e = num_is x in record { crossed = omega (arith, linear_ℤ) }

pub positive_num : (x : ℚ) → (int (pos 0) <ℚ x) ↔ (pos 0 <ℤ x.num)
unfolding int
positive_num x = (to, from)
  where
    to : int (pos 0) <ℚ x → pos 0 <ℤ x.num
    to h = let e = num_is x in let k = h.crossed in omega (arith, linear_ℤ)

    from : pos 0 <ℤ x.num → int (pos 0) <ℚ x
    from h = let e = num_is x in record { crossed = omega (arith, linear_ℤ) }

pub negative_num : (x : ℚ) → (x <ℚ int (pos 0)) ↔ (x.num <ℤ pos 0)
unfolding int
negative_num x = (to, from)
  where
    to : x <ℚ int (pos 0) → x.num <ℤ pos 0
    to h = let e = num_is x in let k = h.crossed in omega (arith, linear_ℤ)

    from : x.num <ℤ pos 0 → x <ℚ int (pos 0)
    from h = let e = num_is x in record { crossed = omega (arith, linear_ℤ) }

-- ---- sums and products of what is at least 0, or above it

pub product_sign : (a c : ℤ) → pos 0 ≤ℤ a → pos 0 ≤ℤ c → pos 0 ≤ℤ (a *ℤ c)
product_sign (pos a) (pos c) h k = omega (arith, ints)
product_sign (pos a) (negsuc c) h k = absurd (omega (arith, ints))
product_sign (negsuc a) c h k = absurd (omega (arith, ints))

pub product_positive : (a c : ℤ) → pos 0 <ℤ a → pos 0 <ℤ c → pos 0 <ℤ (a *ℤ c)
product_positive (pos a) (pos c) h k =
    let m : 0 < a = omega (arith, ints) in
    let n : 0 < c = omega (arith, ints) in
    let both : 0 < a * c = mul-pos m n in
    omega (arith, ints)
product_positive (pos a) (negsuc c) h k = absurd (omega (arith, ints))
product_positive (negsuc a) c h k = absurd (omega (arith, ints))

-- the numerator before it is put in lowest terms has the sign of the rational
sign_reduced : (n : ℤ) (b : ℕ) → (pos 0 ≤ℤ n) ↔ (int (pos 0) ≤ℚ reduced n b)
sign_reduced n b = (to, from)
  where
    zero_is : pos 0 *ℤ pos (suc b) ≡ pos 0
    zero_is = ring_ℤ (pos (suc b) ∷ []) (search reads_ℤ) (search reads_ℤ) tt

    n_is : n *ℤ pos 1 ≡ n
    n_is = ring_ℤ (n ∷ []) (search reads_ℤ) (search reads_ℤ) tt

    to : pos 0 ≤ℤ n → int (pos 0) ≤ℚ reduced n b
    to h = rw int_is ((reduced-≤ℚ (pos 0) n 0 b).0 (rw (zero_is, n_is) h))

    from : int (pos 0) ≤ℚ reduced n b → pos 0 ≤ℤ n
    from h = rw (zero_is, n_is) at ((reduced-≤ℚ (pos 0) n 0 b).1 (rw int_is at h))

positive_reduced : (n : ℤ) (b : ℕ) → (pos 0 <ℤ n) ↔ (int (pos 0) <ℚ reduced n b)
positive_reduced n b = (to, from)
  where
    zero_is : pos 0 *ℤ pos (suc b) ≡ pos 0
    zero_is = ring_ℤ (pos (suc b) ∷ []) (search reads_ℤ) (search reads_ℤ) tt

    n_is : n *ℤ pos 1 ≡ n
    n_is = ring_ℤ (n ∷ []) (search reads_ℤ) (search reads_ℤ) tt

    to : pos 0 <ℤ n → int (pos 0) <ℚ reduced n b
    to h = rw int_is ((reduced-<ℚ (pos 0) n 0 b).0 (rw (zero_is, n_is) h))

    from : int (pos 0) <ℚ reduced n b → pos 0 <ℤ n
    from h = rw (zero_is, n_is) at ((reduced-<ℚ (pos 0) n 0 b).1 (rw int_is at h))

pos_sign : (n : ℕ) → pos 0 ≤ℤ pos n
pos_sign n = omega (arith, ints)

pub zero-≤ℚ-+ℚ : {x y : ℚ} → int (pos 0) ≤ℚ x → int (pos 0) ≤ℚ y → int (pos 0) ≤ℚ x +ℚ y
unfolding ◌+ℚ◌
zero-≤ℚ-+ℚ {x} {y} h k =
    let left = product_sign x.num (pos (den y)) ((nonnegative_num x).0 h) (pos_sign (den y)) in
    let right = product_sign y.num (pos (den x)) ((nonnegative_num y).0 k) (pos_sign (den x)) in
    (sign_reduced _ (below_product x.below y.below)).0 (omega (arith, linear_ℤ))

pub zero-<ℚ-+ℚ : {x y : ℚ} → int (pos 0) <ℚ x → int (pos 0) ≤ℚ y → int (pos 0) <ℚ x +ℚ y
unfolding ◌+ℚ◌
zero-<ℚ-+ℚ {x} {y} h k =
    let left = product_positive x.num (pos (den y)) ((positive_num x).0 h) (omega (arith, ints)) in
    let right = product_sign y.num (pos (den x)) ((nonnegative_num y).0 k) (pos_sign (den x)) in
    (positive_reduced _ (below_product x.below y.below)).0 (omega (arith, linear_ℤ))

pub zero-≤ℚ-*ℚ : {x y : ℚ} → int (pos 0) ≤ℚ x → int (pos 0) ≤ℚ y → int (pos 0) ≤ℚ x *ℚ y
unfolding ◌*ℚ◌
zero-≤ℚ-*ℚ {x} {y} h k = (sign_reduced _ (below_product x.below y.below)).0 (product_sign x.num y.num ((nonnegative_num x).0 h) ((nonnegative_num y).0 k))

pub zero-<ℚ-*ℚ : {x y : ℚ} → int (pos 0) <ℚ x → int (pos 0) <ℚ y → int (pos 0) <ℚ x *ℚ y
unfolding ◌*ℚ◌
zero-<ℚ-*ℚ {x} {y} h k = (positive_reduced _ (below_product x.below y.below)).0 (product_positive x.num y.num ((positive_num x).0 h) ((positive_num y).0 k))

-- ---- order between two

pub ≤ℚ_antisymm : {x y : ℚ} → x ≤ℚ y → y ≤ℚ x → x ≡ y
≤ℚ_antisymm {x} {y} h k = let p = h.crossed in let q = k.crossed in same_ℚ x y (omega (arith, linear_ℤ))

pub ≤ℚ_of_<ℚ : {x y : ℚ} → x <ℚ y → x ≤ℚ y
≤ℚ_of_<ℚ h = let p = h.crossed in record { crossed = omega (arith, linear_ℤ) }

pub ≤ℚ_or_>ℚ : (x y : ℚ) → (x ≤ℚ y) ⊎ (y <ℚ x)
≤ℚ_or_>ℚ x y = by_lt_z (y.num *ℤ pos (den x)) (x.num *ℤ pos (den y)) (λ h. inr (record { crossed = h })) (λ h. inl (record { crossed = h }))

pub not_both_ℚ : {P : Type 0} {x y : ℚ} → x ≤ℚ y → y <ℚ x → P
not_both_ℚ h k = let p = h.crossed in let q = k.crossed in absurd (omega (arith, linear_ℤ))

pub <ℚ_from_not : (x y : ℚ) → ¬ (y ≤ℚ x) → x <ℚ y
<ℚ_from_not x y n = ⊎_elim (λ h. absurd (n h)) (λ h. h) (≤ℚ_or_>ℚ y x)

pub ≤ℚ_from_not : (x y : ℚ) → ¬ (y <ℚ x) → x ≤ℚ y
≤ℚ_from_not x y n = ⊎_elim (λ h. h) (λ h. absurd (n h)) (≤ℚ_or_>ℚ x y)

-- ---- an order from another by computing

-- a number that is written out, at least 0, and nothing else
abbrev pub is_nonnegative_ℤ : ℤ → Bool
is_nonnegative_ℤ (pos n) = true
is_nonnegative_ℤ (negsuc n) = false

abbrev pub is_constant : Monomial → Bool
is_constant [] = true
is_constant (i ∷ m) = false

abbrev pub is_nonnegative : Polynomial → Bool
is_nonnegative [] = true
is_nonnegative (s ∷ p) = (is_zero_ℤ s.coefficient || (is_constant s.monomial && is_nonnegative_ℤ s.coefficient)) && is_nonnegative p

zero-≤ℚ-int_pos : (n : ℕ) → int (pos 0) ≤ℚ int (pos n)
unfolding int
zero-≤ℚ-int_pos n = record { crossed = omega (arith, ints) }

pub is_nonnegative-value : (xs : List ℚ) (p : Polynomial) → T (is_nonnegative p) → int (pos 0) ≤ℚ polynomial_value rationals xs p
is_nonnegative-value xs [] t = zero-≤ℚ-int_pos 0
is_nonnegative-value xs (s ∷ p) t = split s.coefficient s.monomial t (is_nonnegative-value xs p)
  where
    split : (c : ℤ) (m : Monomial) → T ((is_zero_ℤ c || (is_constant m && is_nonnegative_ℤ c)) && is_nonnegative p)
        → (T (is_nonnegative p) → int (pos 0) ≤ℚ polynomial_value rationals xs p)
        → int (pos 0) ≤ℚ int c *ℚ monomial_value rationals xs m +ℚ polynomial_value rationals xs p
    split (pos zero) m t rest = zero-≤ℚ-+ℚ (rw (*ℚ_comm (int (pos 0)) (monomial_value rationals xs m), mul-zero rationals rationals_ring xs (monomial_value rationals xs m)) (zero-≤ℚ-int_pos 0)) (rest t)
    split (pos (suc n)) [] t rest = zero-≤ℚ-+ℚ (zero-≤ℚ-*ℚ (zero-≤ℚ-int_pos (suc n)) (zero-≤ℚ-int_pos 1)) (rest t)
    split (pos (suc n)) (i ∷ m) t rest = absurd t
    split (negsuc n) [] t rest = absurd t
    split (negsuc n) (i ∷ m) t rest = absurd t

-- the four sides of two orders
abbrev pub FourRead : List ℚ → ℚ → ℚ → ℚ → ℚ → Type 0
FourRead xs a b x y = Reads_ℚ xs a × Reads_ℚ xs b × Reads_ℚ xs x × Reads_ℚ xs y

-- how much more (y - x) is than (b - a)
abbrev pub excess : Term → Term → Term → Term → Term
excess a b x y = minus (minus y x) (minus b a)

excess-value : (xs : List ℚ) {a b x y : ℚ} (r : FourRead xs a b x y) → T (is_nonnegative (normal (excess r.0.term r.1.term r.2.term r.3.term))) → int (pos 0) ≤ℚ (y -ℚ x) -ℚ (b -ℚ a)
excess-value xs {a} {b} {x} {y} r t =
    subst (λ z. int (pos 0) ≤ℚ z)
    (normal-value rationals rationals_ring xs (excess r.0.term r.1.term r.2.term r.3.term) ∙ (λ i. (r.3.is i -ℚ r.2.is i) -ℚ (r.1.is i -ℚ r.0.is i)))
    (is_nonnegative-value xs (normal (excess r.0.term r.1.term r.2.term r.3.term)) t)

regrouped : (a b x y : ℚ) → (b -ℚ a) +ℚ ((y -ℚ x) -ℚ (b -ℚ a)) ≡ y -ℚ x
regrouped a b x y = ring (a ∷ b ∷ x ∷ y ∷ []) (search reads_ℚ depth 9) tt

pub linear : (xs : List ℚ) {a b x y : ℚ} → a ≤ℚ b → (r : FourRead xs a b x y) → T (is_nonnegative (normal (excess r.0.term r.1.term r.2.term r.3.term))) → x ≤ℚ y
linear xs {a} {b} {x} {y} h r t =
    (≤ℚ-sub x y).1 (subst (λ z. int (pos 0) ≤ℚ z) (regrouped a b x y) (zero-≤ℚ-+ℚ ((≤ℚ-sub a b).0 h) (excess-value xs r t)))

pub linear_strict : (xs : List ℚ) {a b x y : ℚ} → a <ℚ b → (r : FourRead xs a b x y) → T (is_nonnegative (normal (excess r.0.term r.1.term r.2.term r.3.term))) → x <ℚ y
linear_strict xs {a} {b} {x} {y} h r t =
    (<ℚ-sub x y).1 (subst (λ z. int (pos 0) <ℚ z) (regrouped a b x y) (zero-<ℚ-+ℚ ((<ℚ-sub a b).0 h) (excess-value xs r t)))

-- ---- the laws

pub ≤ℚ_refl : (x : ℚ) → x ≤ℚ x
≤ℚ_refl x = linear (x ∷ []) (zero-≤ℚ-int_pos 0) (search reads_ℚ) tt

pub ≤ℚ_of_≡ : {x y : ℚ} → x ≡ y → x ≤ℚ y
≤ℚ_of_≡ {x} e = subst (λ z. x ≤ℚ z) e (≤ℚ_refl x)

-- two orders added, and an order times a factor: what `linear` starts from
pub add-≤ℚ : {a b c d : ℚ} → a ≤ℚ b → c ≤ℚ d → a +ℚ c ≤ℚ b +ℚ d
add-≤ℚ {a} {b} {c} {d} h k =
    linear (a ∷ b ∷ c ∷ d ∷ []) (zero-≤ℚ-+ℚ ((≤ℚ-sub a b).0 h) ((≤ℚ-sub c d).0 k)) (search reads_ℚ depth 9) tt

pub add-<ℚ : {a b c d : ℚ} → a <ℚ b → c ≤ℚ d → a +ℚ c <ℚ b +ℚ d
add-<ℚ {a} {b} {c} {d} h k =
    linear_strict (a ∷ b ∷ c ∷ d ∷ []) (zero-<ℚ-+ℚ ((<ℚ-sub a b).0 h) ((≤ℚ-sub c d).0 k)) (search reads_ℚ depth 9) tt

pub mul-≤ℚ : {m a b : ℚ} → int (pos 0) ≤ℚ m → a ≤ℚ b → m *ℚ a ≤ℚ m *ℚ b
mul-≤ℚ {m} {a} {b} n h = linear (m ∷ a ∷ b ∷ []) (zero-≤ℚ-*ℚ n ((≤ℚ-sub a b).0 h)) (search reads_ℚ depth 9) tt

pub mul-<ℚ : {m a b : ℚ} → int (pos 0) <ℚ m → a <ℚ b → m *ℚ a <ℚ m *ℚ b
mul-<ℚ {m} {a} {b} n h = linear_strict (m ∷ a ∷ b ∷ []) (zero-<ℚ-*ℚ n ((<ℚ-sub a b).0 h)) (search reads_ℚ depth 9) tt

-- a factor at most 0 turns the order round
pub mul-≤ℚ_nonpositive : {m a b : ℚ} → m ≤ℚ int (pos 0) → a ≤ℚ b → m *ℚ b ≤ℚ m *ℚ a
mul-≤ℚ_nonpositive {m} {a} {b} n h = linear (m ∷ a ∷ b ∷ []) (zero-≤ℚ-*ℚ ((≤ℚ-sub m (int (pos 0))).0 n) ((≤ℚ-sub a b).0 h)) (search reads_ℚ depth 9) tt

pub ≤ℚ_trans : {x y z : ℚ} → x ≤ℚ y → y ≤ℚ z → x ≤ℚ z
≤ℚ_trans {x} {y} {z} h k = linear (x ∷ y ∷ z ∷ []) (add-≤ℚ h k) (search reads_ℚ) tt

pub <ℚ-≤ℚ_trans : {x y z : ℚ} → x <ℚ y → y ≤ℚ z → x <ℚ z
<ℚ-≤ℚ_trans {x} {y} {z} h k = linear_strict (x ∷ y ∷ z ∷ []) (add-<ℚ h k) (search reads_ℚ) tt

pub ≤ℚ-<ℚ_trans : {x y z : ℚ} → x ≤ℚ y → y <ℚ z → x <ℚ z
≤ℚ-<ℚ_trans {x} {y} {z} h k = linear_strict (x ∷ y ∷ z ∷ []) (add-<ℚ k h) (search reads_ℚ) tt

pub <ℚ_trans : {x y z : ℚ} → x <ℚ y → y <ℚ z → x <ℚ z
<ℚ_trans h k = <ℚ-≤ℚ_trans h (≤ℚ_of_<ℚ k)

pub <ℚ_irrefl : {P : Type 0} {x : ℚ} → x <ℚ x → P
<ℚ_irrefl {P} {x} h = not_both_ℚ (≤ℚ_refl x) h

pub ≤ℚ_total : (x y : ℚ) → (x ≤ℚ y) ⊎ (y ≤ℚ x)
≤ℚ_total x y = ⊎_elim inl (λ h. inr (≤ℚ_of_<ℚ h)) (≤ℚ_or_>ℚ x y)

pub neg-≤ℚ : {x y : ℚ} → x ≤ℚ y → neg_ℚ y ≤ℚ neg_ℚ x
neg-≤ℚ {x} {y} h = linear (x ∷ y ∷ []) h (search reads_ℚ) tt

pub zero-<ℚ-one : int (pos 0) <ℚ int (pos 1)
unfolding int
zero-<ℚ-one = record { crossed = omega (arith, ints) }

-- for `search` and `grind`: chains, sums and products of orders
pub ruleset orders_ℚ = (≤ℚ_refl, ≤ℚ_trans, <ℚ-≤ℚ_trans, ≤ℚ-<ℚ_trans, ≤ℚ_of_<ℚ, add-≤ℚ, add-<ℚ, mul-≤ℚ, neg-≤ℚ, ≤ℚ_antisymm, zero-≤ℚ-+ℚ, zero-≤ℚ-*ℚ)
