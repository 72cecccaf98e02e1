-- An order from several at hand: `linarith xs (known h (search reads_ℚ) ∷ known k (search reads_ℚ) ∷ []) (search reads_ℚ) tt` tries each of them no, one or two times.
use Rattle.std.specs.Prelude.{◌≡◌, List, [], ◌∷◌, pos, Bool, true, false, T}
use Rattle.std.proofs.Common.{sym, subst, subst₂, ap, ◌∙◌}
use Rattle.frac128.specs.Rational.{ℚ, int, ◌+ℚ◌, ◌-ℚ◌, ◌≤ℚ◌}
use Rattle.frac128.specs.Ring.{Term, Polynomial, value, polynomial_value, polynomial_sum, scaled_polynomial, minus_one, normal, normal-value, polynomial_sum-value, negated-value}
use Rattle.frac128.specs.Ring.Term.{minus}
use Rattle.frac128.specs.RationalRing.{rationals, rationals_ring, BothRead, reads_ℚ}
use Rattle.frac128.specs.RationalOrder.{is_nonnegative, is_nonnegative-value, ≤ℚ-sub, linear, add-≤ℚ}

-- an order that is at hand, with its sides read
pub record Known (xs : List ℚ) : Type 0 where
  pub low : Term
  pub high : Term
  pub holds : value rationals xs low ≤ℚ value rationals xs high

abbrev pub known : {xs : List ℚ} {a b : ℚ} → a ≤ℚ b → BothRead xs a b → Known xs
known h r = record { low = r.0.term; high = r.1.term; holds = subst₂ ◌≤ℚ◌ (sym r.0.is) (sym r.1.is) h }

abbrev pub less : Polynomial → Polynomial → Polynomial
less p g = polynomial_sum p (scaled_polynomial minus_one g)

-- p less some of what is at hand is a number that is written out and at least 0
abbrev pub reaches : {xs : List ℚ} → Polynomial → List (Known xs) → Bool
reaches p [] = is_nonnegative p
reaches p (k ∷ ks) =
    elim (reaches (less p (normal (minus k.high k.low))) ks) [
      | true ↦ true
      | false ↦ elim (reaches p ks) [
        | true ↦ true
        | false ↦ reaches (less (less p (normal (minus k.high k.low))) (normal (minus k.high k.low))) ks
      ]
    ]

module _ (xs : List ℚ) where
  abbrev at : Polynomial → ℚ
  at p = polynomial_value rationals xs p

  less-value : (p g : Polynomial) → at (less p g) ≡ at p -ℚ at g
  less-value p g = polynomial_sum-value rationals rationals_ring xs p (scaled_polynomial minus_one g) ∙ ap (λ t. at p +ℚ t) (negated-value rationals rationals_ring xs g)

  restored : (p g : ℚ) → int (pos 0) ≤ℚ g → int (pos 0) ≤ℚ p -ℚ g → int (pos 0) ≤ℚ p
  restored p g h k = linear (p ∷ g ∷ []) (add-≤ℚ h k) (search reads_ℚ) tt

  gap-value : (k : Known xs) → int (pos 0) ≤ℚ at (normal (minus k.high k.low))
  gap-value k = subst (λ z. int (pos 0) ≤ℚ z) (sym (normal-value rationals rationals_ring xs (minus k.high k.low))) ((≤ℚ-sub _ _).0 k.holds)

  less-restored : (p : Polynomial) (k : Known xs) → int (pos 0) ≤ℚ at (less p (normal (minus k.high k.low))) → int (pos 0) ≤ℚ at p
  less-restored p k h = restored (at p) (at (normal (minus k.high k.low))) (gap-value k) (subst (λ z. int (pos 0) ≤ℚ z) (less-value p (normal (minus k.high k.low))) h)

  reaches-value : (p : Polynomial) (ks : List (Known xs)) → T (reaches p ks) → int (pos 0) ≤ℚ at p
  reaches-value p [] t = is_nonnegative-value xs p t
  reaches-value p (k ∷ ks) t =
      by (reaches (less p (normal (minus k.high k.low))) ks) (reaches p ks) (reaches (less (less p (normal (minus k.high k.low))) (normal (minus k.high k.low))) ks)
      (λ s. less-restored p k (reaches-value (less p (normal (minus k.high k.low))) ks s))
      (reaches-value p ks)
      (λ s. less-restored p k (less-restored (less p (normal (minus k.high k.low))) k (reaches-value (less (less p (normal (minus k.high k.low))) (normal (minus k.high k.low))) ks s)))
      t
    where
      by : (a b c : Bool) → (T a → int (pos 0) ≤ℚ at p) → (T b → int (pos 0) ≤ℚ at p) → (T c → int (pos 0) ≤ℚ at p)
          → T (elim a [ true ↦ true | false ↦ elim b [ true ↦ true | false ↦ c ] ]) → int (pos 0) ≤ℚ at p
      by true b c f g h t = f tt
      by false true c f g h t = g tt
      by false false c f g h t = h t

  pub linarith : (ks : List (Known xs)) {x y : ℚ} (r : BothRead xs x y) → T (reaches (normal (minus r.1.term r.0.term)) ks) → x ≤ℚ y
  linarith ks {x} {y} r t =
      (≤ℚ-sub x y).1 (subst (λ z. int (pos 0) ≤ℚ z)
      (normal-value rationals rationals_ring xs (minus r.1.term r.0.term) ∙ (λ i. r.1.is i -ℚ r.0.is i))
      (reaches-value (normal (minus r.1.term r.0.term)) ks t))
