-- A sum of products with its steps: where each has room, and which is the first that has none.
--     StepFits total factor number     no step is made where the factor or the number is 0; else the product has room, and its sum with the total
--     partial start a x k              the sum before step k
use Rattle.std.specs.Prelude.{◌≡◌, ◌⊎◌, ℕ, ◌<◌, pos, Result, Ok, Err}
use Rattle.frac128.specs.Rational.{ℚ, int, ◌+ℚ◌, ◌*ℚ◌}
use Rattle.frac128.specs.Range.{ProductSumFits}
use Rattle.frac128.specs.Sums.{sum_below}

abbrev pub StepFits : ℚ → ℚ → ℚ → Type 0
StepFits total factor number = (factor ≡ int (pos 0)) ⊎ ((number ≡ int (pos 0)) ⊎ ProductSumFits total factor number)

abbrev pub partial : ℚ → (ℕ → ℚ) → (ℕ → ℚ) → ℕ → ℚ
partial start a x k = start +ℚ sum_below k (λ j. a j *ℚ x j)

-- step k of the sum of the products a k * x k from the start
abbrev pub StepFitsAt : ℚ → (ℕ → ℚ) → (ℕ → ℚ) → ℕ → Type 0
StepFitsAt start a x k = StepFits (partial start a x k) (a k) (x k)

abbrev pub AllFit : ℚ → (ℕ → ℚ) → (ℕ → ℚ) → ℕ → Type 0
AllFit start a x n = (k : ℕ) → k < n → StepFitsAt start a x k

-- k is the first of the n steps that has no room
pub record IsFirstWide (start : ℚ) (a x : ℕ → ℚ) (n k : ℕ) : Type 0 where
  pub within : k < n
  pub before : AllFit start a x k
  pub here : ¬ StepFitsAt start a x k

-- the sum of n products where all steps have room, else the place of the first that has none
abbrev pub IsCheckedSum : {P : Type 0} → ℚ → (ℕ → ℚ) → (ℕ → ℚ) → ℕ → (ℕ → P) → Result ℚ P → Type 0
IsCheckedSum start a x n place (Ok v) = AllFit start a x n × (v ≡ partial start a x n)
IsCheckedSum start a x n place (Err e) = (k : ℕ) × (IsFirstWide start a x n k × (e ≡ place k))
