-- Sums whose terms are alike as far as a place, and a step in whole numbers.
use Rattle.std.specs.Prelude.{◌≡◌, ℕ, zero, suc, [], ◌∷◌, ℤ, pos, ◌+ℤ◌, ◌*ℤ◌}
use Rattle.std.proofs.Common.{refl, sym, ap, subst, ◌∙◌, inl, inr, arith}
use Rattle.frac128.specs.Rational.{ℚ, int, ◌+ℚ◌, ◌*ℚ◌}
use Rattle.frac128.specs.RationalRing.{ring, reads_ℚ}
use Rattle.frac128.specs.LowestTerms.{quotient_of}
use Rattle.frac128.specs.Sums.{sum_below}
use Rattle.checked_sum.specs.Steps.{StepFits, AllFit, partial}
use Rattle.whole_sums.specs.Wholes.{HasMargin, IsWholeTerm}
use Rattle.whole_sums.proofs.SumLemmas.{term_of_factor, step_fits, step_value}
use Rattle.kept_totals.specs.declared.term.WholePair.{WholePair}
use Rattle.kept_totals.specs.Forms.{IsWholePair}
use Rattle.kept_totals.specs.Kept.{IsNoStep, IsLikeTerm, AreLikeBefore, LikeTermsLaw}

zero_product : (a x : ℚ) → IsNoStep a x → a *ℚ x ≡ int (pos 0)
zero_product a x (inl e) = subst (λ z. z *ℚ x ≡ int (pos 0)) (sym e) (ring (x ∷ []) (search reads_ℚ) tt)
zero_product a x (inr e) = subst (λ z. a *ℚ z ≡ int (pos 0)) (sym e) (ring (a ∷ []) (search reads_ℚ) tt)

no_step_fits : (t a x : ℚ) → IsNoStep a x → StepFits t a x
no_step_fits t a x (inl e) = inl e
no_step_fits t a x (inr e) = inr (inl e)

pub like_product : (a x b y : ℚ) → IsLikeTerm a x b y → a *ℚ x ≡ b *ℚ y
like_product a x b y (inl same) = λ i. same.0 i *ℚ same.1 i
like_product a x b y (inr none) = zero_product a x none.0 ∙ sym (zero_product b y none.1)

like_fits : (t u a x b y : ℚ) → t ≡ u → IsLikeTerm a x b y → StepFits t a x → StepFits u b y
like_fits t u a x b y e (inl same) fits = subst (λ P. P) (λ i. StepFits (e i) (same.0 i) (same.1 i)) fits
like_fits t u a x b y e (inr none) fits = no_step_fits u b y none.1

like_back : (a x b y : ℚ) → IsLikeTerm a x b y → IsLikeTerm b y a x
like_back a x b y (inl same) = inl (sym same.0, sym same.1)
like_back a x b y (inr none) = inr (none.1, none.0)

module _ (a x b y : ℕ → ℚ) where
  sum-like : (p : ℕ) → AreLikeBefore a x b y p → sum_below p (λ j. a j *ℚ x j) ≡ sum_below p (λ j. b j *ℚ y j)
  sum-like zero like = refl
  sum-like (suc p) like =
      let before = sum-like p (λ k below. like k (omega arith)) in
      let here = like_product (a p) (x p) (b p) (y p) (like p (omega arith)) in
      (λ i. before i +ℚ here i)

  pub partial-like : (start : ℚ) (p : ℕ) → AreLikeBefore a x b y p → partial start a x p ≡ partial start b y p
  partial-like start p like = ap (λ t. start +ℚ t) (sum-like p like)

  pub fits-like : (start : ℚ) (p : ℕ) → AreLikeBefore a x b y p → AllFit start a x p → AllFit start b y p
  fits-like start p like all k below =
      like_fits (partial start a x k) (partial start b y k) (a k) (x k) (b k) (y k) (partial-like start k (λ j h. like j (omega arith))) (like k below) (all k below)

pub like_terms : LikeTermsLaw
like_terms start a x b y p like =
    record {
      total = partial-like a x b y start p like;
      fits = fits-like a x b y start p like;
      fits_back = fits-like b y a x start p (λ k below. like_back (a k) (x k) (b k) (y k) (like k below));
    }

-- a step in whole numbers over one denominator
pub pair_step : (t : ℚ) (w : WholePair) → IsWholePair w → (number next : ℤ) → HasMargin number → quotient_of number w.denominator ≡ t → next ≡ number +ℤ w.factor *ℤ w.number → HasMargin next
    → StepFits t (quotient_of w.factor w.denominator) (int w.number) × (quotient_of next w.denominator ≡ t +ℚ quotient_of w.factor w.denominator *ℚ int w.number)
pair_step t w is number next room value next_is next_room =
    let d = w.denominator in
    let a : ℚ = quotient_of w.factor d in
    let term : IsWholeTerm d a (int w.number) w.factor w.number = term_of_factor a (int w.number) w.factor w.number d is.denominator.positive is.factor is.number refl refl in (
      subst (λ s. StepFits s a (int w.number)) value (step_fits a (int w.number) d number is.denominator room w.factor w.number term next next_is next_room),
      step_value a (int w.number) d number is.denominator room w.factor w.number term next next_is next_room ∙ ap (λ s. s +ℚ a *ℚ int w.number) value,
    )
