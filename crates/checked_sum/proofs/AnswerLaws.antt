-- What the answer of a checked sum tells.
use Rattle.std.specs.Prelude.{◌≡◌, ℕ, ◌<◌, ◌≤◌, Result, Ok, Err}
use Rattle.std.proofs.Common.{refl, sym, ap, subst, ◌∙◌, inl, inr, arith}
use Rattle.std.proofs.lemmas.Bool.{cases_order}
use Rattle.frac128.specs.Rational.{ℚ, ◌*ℚ◌, ◌+ℚ◌}
use Rattle.checked_sum.specs.Steps.{StepFits, StepFitsAt, AllFit, IsFirstWide, IsCheckedSum, partial}
use Rattle.checked_sum.proofs.SumLaws.{sum_below-same}

module _ (start : ℚ) (a x : ℕ → ℚ) (n : ℕ) where
  -- a refusal at a place, in a caller's words for that place
  pub wide_at : {P : Type 0} (place : ℕ → P) (k : ℕ) → IsCheckedSum start a x n (λ j. j) (Err k) → IsCheckedSum start a x n place (Err (place k))
  wide_at place k (j, (wide, e)) = (k, (subst (IsFirstWide start a x n) (sym e) wide, refl))

  -- where each step has room, the answer is the sum
  pub answer_of_fits : {P : Type 0} (place : ℕ → P) (r : Result ℚ P) → AllFit start a x n → IsCheckedSum start a x n place r → r ≡ Ok (partial start a x n)
  answer_of_fits place (Ok v) all answer = ap Ok answer.1
  answer_of_fits place (Err e) all (k, (wide, _)) = absurd (wide.here (all k wide.within))

  -- one first step alone has no room
  pub first_wide_unique : (j k : ℕ) → IsFirstWide start a x n j → IsFirstWide start a x n k → j ≡ k
  first_wide_unique j k p q =
      elim (cases_order j k) [
        | inl e ↦ e
        | inr apart ↦ elim apart [ inl below ↦ absurd (p.here (q.before j below)) | inr above ↦ absurd (q.here (p.before k above)) ]
      ]

-- sums over the same factors and numbers, as far as they go
module _ (start : ℚ) (a b x y : ℕ → ℚ) (n : ℕ) (same_a : (k : ℕ) → k < n → a k ≡ b k) (same_x : (k : ℕ) → k < n → x k ≡ y k) where
  pub partial-same : (k : ℕ) → k ≤ n → partial start a x k ≡ partial start b y k
  partial-same k below = ap (λ t. start +ℚ t) (sum_below-same k (λ j. a j *ℚ x j) (λ j. b j *ℚ y j) (λ j h i. same_a j (omega arith) i *ℚ same_x j (omega arith) i))

  fits_at-same : (k : ℕ) → k < n → StepFitsAt start a x k ≡ StepFitsAt start b y k
  fits_at-same k below = let within : k ≤ n = omega arith in (λ i. StepFits (partial-same k within i) (same_a k below i) (same_x k below i))

  all_fit-same : (m : ℕ) → m ≤ n → AllFit start a x m → AllFit start b y m
  all_fit-same m within all k below = let h : k < n = omega arith in subst (λ P. P) (fits_at-same k h) (all k below)

  -- the same answer fits both
  pub answer-same : {P : Type 0} (place : ℕ → P) (r : Result ℚ P) → IsCheckedSum start a x n place r → IsCheckedSum start b y n place r
  answer-same place (Ok v) h = (all_fit-same n (omega arith) h.0, h.1 ∙ partial-same n (omega arith))
  answer-same place (Err e) (k, (wide, is)) =
      let h = wide.within in
      (k, (record { within = wide.within; before = all_fit-same k (omega arith) wide.before; here = λ fits. wide.here (subst (λ P. P) (sym (fits_at-same k wide.within)) fits) }, is))
