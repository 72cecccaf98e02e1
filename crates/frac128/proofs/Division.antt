-- Division by a number above 0, cancelling, and the lesser and the greater of two.
use Rattle.std.specs.Prelude.{◌≡◌, ◌≢◌, List, [], ◌∷◌, pos, Bool, true, false, ◌↔◌, cond, T}
use Rattle.std.proofs.Common.{refl, sym, subst, ap, ◌∙◌, true≢false}
use Rattle.frac128.specs.Rational.{ℚ, int, ◌+ℚ◌, ◌-ℚ◌, ◌*ℚ◌, ◌/ℚ◌, inverse, ◌≤ℚ◌, ◌<ℚ◌, rational_le, min_ℚ, max_ℚ}
use Rattle.frac128.specs.Ring.{is_zero_polynomial, normal}
use Rattle.frac128.specs.Ring.Term.{minus}
use Rattle.frac128.specs.RationalRing.{BothRead, reads_ℚ, ring, zero-+ℚ}
use Rattle.frac128.specs.RationalOrder.{linear, mul-≤ℚ, mul-<ℚ, not_both_ℚ, ≤ℚ_from_not, <ℚ_from_not, ≤ℚ_of_<ℚ, ≤ℚ_refl, <ℚ_irrefl, zero-<ℚ-one}
use Rattle.frac128.proofs.Rounding.{*ℚ-inverse}
use Rattle.frac128.proofs.Comparison.{rational_le-decides}

-- an equation from one that is at hand, by computing
pub ring_from : (xs : List ℚ) {a b x y : ℚ} → a ≡ b → (r : BothRead xs (y -ℚ x) (b -ℚ a)) → T (is_zero_polynomial (normal (minus r.0.term r.1.term))) → x ≡ y
ring_from xs {a} {b} {x} {y} e r t =
    let none : b -ℚ b ≡ int (pos 0) = ring (b ∷ []) (search reads_ℚ) tt in
    let whole : (y -ℚ x) +ℚ x ≡ y = ring (x ∷ y ∷ []) (search reads_ℚ) tt in
    let difference : y -ℚ x ≡ int (pos 0) = ring xs r t ∙ ap (λ c. b -ℚ c) e ∙ none in
    sym (zero-+ℚ x) ∙ ap (λ d. d +ℚ x) (sym difference) ∙ whole

not_zero : {x : ℚ} → int (pos 0) <ℚ x → x ≢ int (pos 0)
not_zero h e = <ℚ_irrefl (subst (λ z. int (pos 0) <ℚ z) e h)

pub zero-<ℚ-inverse : {x : ℚ} → int (pos 0) <ℚ x → int (pos 0) <ℚ inverse x
zero-<ℚ-inverse {x} h =
    <ℚ_from_not (int (pos 0)) (inverse x) (λ k.
    let below = mul-≤ℚ (≤ℚ_of_<ℚ h) k in
    not_both_ℚ (linear (x ∷ inverse x ∷ []) (subst (λ z. z ≤ℚ x *ℚ int (pos 0)) (*ℚ-inverse x (not_zero h)) below) (search reads_ℚ) tt) zero-<ℚ-one)

pub mul-≤ℚ_cancel : {m a b : ℚ} → int (pos 0) <ℚ m → m *ℚ a ≤ℚ m *ℚ b → a ≤ℚ b
mul-≤ℚ_cancel {m} {a} {b} n h = ≤ℚ_from_not a b (λ k. not_both_ℚ h (mul-<ℚ n k))

pub /ℚ-*ℚ : (x y : ℚ) → y ≢ int (pos 0) → (x /ℚ y) *ℚ y ≡ x
/ℚ-*ℚ x y some = ring (x ∷ y ∷ inverse y ∷ []) (search reads_ℚ) tt ∙ ap (λ t. x *ℚ t) (*ℚ-inverse y some) ∙ ring (x ∷ []) (search reads_ℚ) tt

-- x / y is at most z exactly where x is at most z * y, for y above 0
pub /ℚ-≤ℚ : (x y z : ℚ) → int (pos 0) <ℚ y → (x /ℚ y ≤ℚ z) ↔ (x ≤ℚ z *ℚ y)
/ℚ-≤ℚ x y z h = (to, from)
  where
    back : (x /ℚ y) *ℚ y ≡ x
    back = /ℚ-*ℚ x y (not_zero h)

    to : x /ℚ y ≤ℚ z → x ≤ℚ z *ℚ y
    to k = linear (x ∷ y ∷ z ∷ []) (subst (λ t. t ≤ℚ y *ℚ z) (ring (x ∷ y ∷ inverse y ∷ []) (search reads_ℚ) tt ∙ back) (mul-≤ℚ (≤ℚ_of_<ℚ h) k)) (search reads_ℚ) tt

    from : x ≤ℚ z *ℚ y → x /ℚ y ≤ℚ z
    from k = mul-≤ℚ_cancel h (subst (λ t. t ≤ℚ y *ℚ z) (sym (ring (x ∷ y ∷ inverse y ∷ []) (search reads_ℚ) tt ∙ back)) (linear (x ∷ y ∷ z ∷ []) k (search reads_ℚ) tt))

-- z is at most x / y exactly where z * y is at most x, for y above 0
pub ≤ℚ-/ℚ : (x y z : ℚ) → int (pos 0) <ℚ y → (z ≤ℚ x /ℚ y) ↔ (z *ℚ y ≤ℚ x)
≤ℚ-/ℚ x y z h = (to, from)
  where
    back : (x /ℚ y) *ℚ y ≡ x
    back = /ℚ-*ℚ x y (not_zero h)

    to : z ≤ℚ x /ℚ y → z *ℚ y ≤ℚ x
    to k = linear (x ∷ y ∷ z ∷ []) (subst (λ t. y *ℚ z ≤ℚ t) (ring (x ∷ y ∷ inverse y ∷ []) (search reads_ℚ) tt ∙ back) (mul-≤ℚ (≤ℚ_of_<ℚ h) k)) (search reads_ℚ) tt

    from : z *ℚ y ≤ℚ x → z ≤ℚ x /ℚ y
    from k = mul-≤ℚ_cancel h (subst (λ t. y *ℚ z ≤ℚ t) (sym (ring (x ∷ y ∷ inverse y ∷ []) (search reads_ℚ) tt ∙ back)) (linear (x ∷ y ∷ z ∷ []) k (search reads_ℚ) tt))

-- ---- the lesser and the greater

by_order : (x y : ℚ) (P : ℚ → ℚ → Type 0) → (x ≤ℚ y → P x y) → (y ≤ℚ x → P y x) → P (min_ℚ x y) (max_ℚ x y)
by_order x y P f g = by (rational_le x y) refl
  where
    by : (b : Bool) → rational_le x y ≡ b → P (cond b x y) (cond b y x)
    by true e = f ((rational_le-decides x y).0 e)
    by false e = g (≤ℚ_from_not y x (λ h. absurd (true≢false (sym ((rational_le-decides x y).1 (≤ℚ_of_<ℚ h)) ∙ e))))

pub min-≤ℚ : (x y : ℚ) → (min_ℚ x y ≤ℚ x) × (min_ℚ x y ≤ℚ y)
min-≤ℚ x y = by_order x y (λ low high. (low ≤ℚ x) × (low ≤ℚ y)) (λ h. (≤ℚ_refl x, h)) (λ h. (h, ≤ℚ_refl y))

pub ≤ℚ-max : (x y : ℚ) → (x ≤ℚ max_ℚ x y) × (y ≤ℚ max_ℚ x y)
≤ℚ-max x y = by_order x y (λ low high. (x ≤ℚ high) × (y ≤ℚ high)) (λ h. (h, ≤ℚ_refl y)) (λ h. (≤ℚ_refl x, h))

pub ≤ℚ-min : (z x y : ℚ) → z ≤ℚ x → z ≤ℚ y → z ≤ℚ min_ℚ x y
≤ℚ-min z x y p q = by_order x y (λ low high. z ≤ℚ low) (λ _. p) (λ _. q)

pub max-≤ℚ : (x y z : ℚ) → x ≤ℚ z → y ≤ℚ z → max_ℚ x y ≤ℚ z
max-≤ℚ x y z p q = by_order x y (λ low high. high ≤ℚ z) (λ _. q) (λ _. p)
