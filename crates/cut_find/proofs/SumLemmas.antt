-- Sums of least contributions over one denominator.
use Rattle.std.specs.Prelude.{◌≡◌, ◌≢◌, ℕ, zero, suc, ◌-◌, ◌<◌, ℤ, pos, ◌<ℤ◌, unsigned_abs, [], ◌∷◌}
use Rattle.std.proofs.Common.{sym, ap, subst, ◌∙◌, inl, inr, arith}
use Rattle.std.proofs.lemmas.Bool.{cases_order}
use Rattle.frac128.specs.Rational.{ℚ, int, ◌+ℚ◌, ◌-ℚ◌, ◌<ℚ◌}
use Rattle.frac128.specs.Lowest.{reduced-<ℚ, times-<ℤ, cancel-<ℤ}
use Rattle.frac128.specs.RationalRing.{ring, reads_ℚ}
use Rattle.frac128.specs.LowestTerms.{quotient_of}
use Rattle.frac128.specs.Sums.{sum_below}
use Rattle.checked_sum.proofs.SumLaws.{sum_below-same}
use Rattle.whole_sums.specs.Wholes.{IsShort, IsWholeTerm}
use Rattle.whole_sums.proofs.SumLemmas.{term_of_number}

-- two sums whose terms differ at one place
pub sum_changed : (n j : ℕ) (f g : ℕ → ℚ) → j < n → ((k : ℕ) → k < n → k ≢ j → f k ≡ g k) → sum_below n g ≡ sum_below n f +ℚ (g j -ℚ f j)
sum_changed zero j f g below same = absurd (omega (arith, below))
sum_changed (suc n) j f g below same =
    elim (cases_order j n) [
      | inl e ↦
          subst (λ k. sum_below (suc n) g ≡ sum_below (suc n) f +ℚ (g k -ℚ f k)) (sym e)
          (ap (λ t. t +ℚ g n) (sym (sum_below-same n f g (λ k h. same k (omega (arith, h)) (λ q. omega (arith, q, h, e))))) ∙ last (sum_below n f) (f n) (g n))
      | inr apart ↦ elim apart [
        | inl less ↦
            (λ t. sum_changed n j f g less (λ k h. same k (omega (arith, h))) t +ℚ sym (same n (omega arith) (λ q. omega (arith, q, less))) t) ∙ inner (sum_below n f) (f n) (f j) (g j)
        | inr more ↦ absurd (omega (arith, more, below))
      ]
    ]
  where
    last : (t a b : ℚ) → t +ℚ b ≡ (t +ℚ a) +ℚ (b -ℚ a)
    last t a b = ring (t ∷ a ∷ b ∷ []) (search reads_ℚ) tt

    inner : (t r a b : ℚ) → (t +ℚ (b -ℚ a)) +ℚ r ≡ (t +ℚ r) +ℚ (b -ℚ a)
    inner t r a b = ring (t ∷ r ∷ a ∷ b ∷ []) (search reads_ℚ) tt

-- ---- numbers over a denominator

module _ (a b d : ℤ) where
  abbrev e : ℕ
  e = unsigned_abs d - 1

  pub quotient-less : a <ℤ b → quotient_of a d <ℚ quotient_of b d
  quotient-less h = (reduced-<ℚ a b e e).0 (times-<ℤ a b (suc e) (omega arith) h)

  pub quotient-not_less : ¬ (a <ℤ b) → ¬ (quotient_of a d <ℚ quotient_of b d)
  quotient-not_less h less = h (cancel-<ℤ a b (suc e) ((reduced-<ℚ a b e e).1 less))

-- the product of a whole number and a number over the denominator
pub turned_term : (a x : ℚ) (f n d : ℤ) → pos 0 <ℤ d → IsShort f → IsShort n → x ≡ quotient_of f d → a ≡ int n → IsWholeTerm d a x f n
turned_term a x f n d h f_short n_short x_is a_is = term_of_number a x f n d h f_short n_short a_is x_is
