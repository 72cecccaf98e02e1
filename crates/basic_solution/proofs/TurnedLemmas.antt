-- A sum whose factors and numbers change places, up to where one of them is 0 from then on.
use Rattle.std.specs.Prelude.{◌≡◌, ℕ, ◌+◌, ◌-◌, ◌≤◌, pos, Result, Ok, Err}
use Rattle.std.proofs.Common.{sym, ap, subst, ◌∙◌, ⊎_elim, inl, inr, arith}
use Rattle.std.proofs.lemmas.Bool.{cases_lt}
use Rattle.frac128.specs.Rational.{ℚ, int, ◌+ℚ◌, ◌*ℚ◌}
use Rattle.frac128.specs.RationalRing.{*ℚ_comm}
use Rattle.frac128.specs.Range.{Fits, SumFits}
use Rattle.checked_sum.specs.Steps.{StepFits, StepFitsAt, IsCheckedSum, partial}
use Rattle.checked_sum.proofs.SumLaws.{sum_below-same}
use Rattle.basic_solution.proofs.RowTotalLemmas.{free_value}

step_turned : (t a x : ℚ) → StepFits t x a → StepFits t a x
step_turned t a x h =
    ⊎_elim (λ none. inr (inl none))
    (λ rest. ⊎_elim (λ none. inl none)
    (λ fits. inr (inr (record { product = subst Fits (*ℚ_comm x a) fits.product; sum = subst (SumFits t) (*ℚ_comm x a) fits.sum })))
    rest)
    h

module _ (start : ℚ) (a x : ℕ → ℚ) where
  partial_turned : (k : ℕ) → partial start x a k ≡ partial start a x k
  partial_turned k = ap (λ s. start +ℚ s) (sum_below-same k (λ j. x j *ℚ a j) (λ j. a j *ℚ x j) (λ j q. *ℚ_comm (x j) (a j)))

  at_turned : (k : ℕ) → StepFitsAt start x a k → StepFitsAt start a x k
  at_turned k h = subst (λ t. StepFits t (a k) (x k)) (partial_turned k) (step_turned (partial start x a k) (a k) (x k) h)

  at_back : (k : ℕ) → StepFitsAt start a x k → StepFitsAt start x a k
  at_back k h = subst (λ t. StepFits t (x k) (a k)) (sym (partial_turned k)) (step_turned (partial start a x k) (x k) (a k) h)

  -- the factors are 0 from `end` on
  pub turned_up : (end n : ℕ) → end ≤ n → ((v : ℕ) → end ≤ v → a v ≡ int (pos 0)) → (r : Result ℚ ℕ) → IsCheckedSum {P = ℕ} start x a end (λ k. k) r → IsCheckedSum {P = ℕ} start a x n (λ k. k) r
  turned_up end n within none (Ok v) h = (
    (λ k q. ⊎_elim (λ before. at_turned k (h.0 k before)) (λ past. inl (none k past)) (cases_lt k end)),
    h.1 ∙ partial_turned end ∙ free_value start a x end none (n - end) ∙ ap (partial start a x) (let all : end + (n - end) ≡ n = omega (arith, within) in all),
  )
  turned_up end n within none (Err e) h = (
    h.0,
    (
      record {
        within = (let w = h.1.0.within in omega (arith, w, within));
        before = λ k q. at_turned k (h.1.0.before k q);
        here = λ fits. h.1.0.here (at_back h.0 fits);
      },
      h.1.1,
    ),
  )
