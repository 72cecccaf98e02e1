-- Terms whose factor is 0 make no step and leave the sum.
use Rattle.std.specs.Prelude.{◌≡◌, ℕ, zero, suc, ◌+◌, ◌-◌, ◌<◌, ◌≤◌, pos}
use Rattle.std.proofs.Common.{sym, ap, ◌∙◌, inl, inr, arith}
use Rattle.std.proofs.lemmas.Bool.{cases_lt}
use Rattle.frac128.specs.Rational.{ℚ, int}
use Rattle.checked_sum.specs.Steps.{AllFit, partial}
use Rattle.checked_sum.proofs.StepLaws.{skip_factor, partial_more}

module _ (start : ℚ) (a x : ℕ → ℚ) (m : ℕ) where
  -- the factors from m up to n are 0
  abbrev pub AreNone : ℕ → Type 0
  AreNone n = (k : ℕ) → m ≤ k → k < n → a k ≡ int (pos 0)

  pub fits-skipped : (n : ℕ) → AreNone n → AllFit start a x m → AllFit start a x n
  fits-skipped n none fits = λ k below. elim (cases_lt k m) [
    | inl before ↦ fits k before
    | inr past ↦ inl (none k past below)
  ]

  partial-by : (i : ℕ) → AreNone (m + i) → partial start a x m ≡ partial start a x (m + i)
  partial-by zero none = let e : m ≡ m + 0 = omega arith in ap (partial start a x) e
  partial-by (suc i) none =
      let n = m + i in
      let zero : a n ≡ int (pos 0) = none n (omega arith) (omega arith) in
      let one : n + 1 ≡ m + suc i = omega arith in
      partial-by i (λ k from below. none k from (omega (arith, below))) ∙ (skip_factor (partial start a x n) (a n) (x n) zero).1 ∙ sym (partial_more start a x n) ∙ ap (partial start a x) one

  pub partial-skipped : (n : ℕ) → m ≤ n → AreNone n → partial start a x m ≡ partial start a x n
  partial-skipped n from none =
      let e : m + (n - m) ≡ n = omega (arith, from) in
      partial-by (n - m) (λ k past below. none k past (omega (arith, below, e))) ∙ ap (partial start a x) e
