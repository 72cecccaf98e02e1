-- One step of a checked sum, one step more, and what an answer says.
use Rattle.std.specs.Prelude.{◌≡◌, ℕ, suc, ◌+◌, ◌<◌, [], ◌∷◌, pos}
use Rattle.std.proofs.Common.{sym, ap, subst, ◌∙◌, inl, inr, arith, below_more}
use Rattle.frac128.specs.Rational.{ℚ, int, ◌+ℚ◌, ◌*ℚ◌}
use Rattle.frac128.specs.RationalRing.{ring, reads_ℚ}
use Rattle.frac128.specs.Sums.{sum_below}
use Rattle.checked_sum.specs.Steps.{StepFits, StepFitsAt, AllFit, IsFirstWide, partial}

module _ (t a x : ℚ) where
  pub skip_factor : a ≡ int (pos 0) → StepFits t a x × (t ≡ t +ℚ a *ℚ x)
  skip_factor e = (inl e, subst (λ z. t ≡ t +ℚ z *ℚ x) (sym e) (ring (t ∷ x ∷ []) (search reads_ℚ) tt))

  pub skip_number : x ≡ int (pos 0) → StepFits t a x × (t ≡ t +ℚ a *ℚ x)
  skip_number e = (inr (inl e), subst (λ z. t ≡ t +ℚ a *ℚ z) (sym e) (ring (t ∷ a ∷ []) (search reads_ℚ) tt))

-- the sum before the first step
pub partial_none : (start : ℚ) (a x : ℕ → ℚ) → start ≡ partial start a x 0
partial_none start a x = ring (start ∷ []) (search reads_ℚ) tt

module _ (start : ℚ) (a x : ℕ → ℚ) (k : ℕ) where
  pub partial_more : partial start a x (k + 1) ≡ partial start a x k +ℚ a k *ℚ x k
  partial_more =
      let s : k + 1 ≡ suc k = omega arith in
      rw s (ring (start ∷ sum_below k (λ j. a j *ℚ x j) ∷ a k ∷ x k ∷ []) (search reads_ℚ) tt)

  pub fits_more : AllFit start a x k → StepFitsAt start a x k → AllFit start a x (k + 1)
  fits_more before here = below_more (StepFitsAt start a x) k before here

  module _ (total : ℚ) (total_is : total ≡ partial start a x k) where
    pub partial_next : (next : ℚ) → next ≡ total +ℚ a k *ℚ x k → next ≡ partial start a x (k + 1)
    partial_next next e = e ∙ ap (λ t. t +ℚ a k *ℚ x k) total_is ∙ sym partial_more

    pub fits_next : AllFit start a x k → StepFits total (a k) (x k) → AllFit start a x (k + 1)
    fits_next before here = fits_more before (subst (λ t. StepFits t (a k) (x k)) total_is here)

    pub first_wide : (n : ℕ) → k < n → AllFit start a x k → ¬ StepFits total (a k) (x k) → IsFirstWide start a x n k
    first_wide n below before refused = record { within = below; before = before; here = λ h. refused (subst (λ t. StepFits t (a k) (x k)) (sym total_is) h) }
