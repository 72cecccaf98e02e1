-- What is taken away of numbers over a denominator, place by place.
--     IsProductTaken d a x old new    new is old and the product of a and x over d, a step that has room
--     AreTaken d a x n old new        so at each of the first n places, each with its own x
--     AreAllTaken d a x m n old new   the products of m factors one after the other
use Rattle.std.specs.Prelude.{◌≡◌, ℕ, ◌<◌, ℤ, List}
use Rattle.frac128.specs.Rational.{ℚ, ◌+ℚ◌, ◌*ℚ◌}
use Rattle.frac128.specs.LowestTerms.{quotient_of}
use Rattle.checked_sum.specs.Steps.{StepFits, AllFit, partial}
use Rattle.whole_sums.specs.Wholes.{IsShort, whole_number_at}

abbrev pub IsProductTaken : ℤ → ℚ → ℚ → ℤ → ℤ → Type 0
IsProductTaken d a x old new = IsShort new × (StepFits (quotient_of old d) a x × (quotient_of new d ≡ quotient_of old d +ℚ a *ℚ x))

abbrev pub AreFirstShort : ℕ → List ℤ → Type 0
AreFirstShort n numbers = (j : ℕ) → j < n → IsShort (whole_number_at numbers j)

abbrev pub AreTaken : ℤ → ℚ → (ℕ → ℚ) → ℕ → List ℤ → List ℤ → Type 0
AreTaken d a x n old new = (j : ℕ) → j < n → IsProductTaken d a (x j) (whole_number_at old j) (whole_number_at new j)

-- from one number, m products
abbrev pub AreProductsTaken : ℤ → (ℕ → ℚ) → (ℕ → ℚ) → ℕ → ℤ → ℤ → Type 0
AreProductsTaken d a x m old new = IsShort new × (AllFit (quotient_of old d) a x m × (quotient_of new d ≡ partial (quotient_of old d) a x m))

abbrev pub AreAllTaken : ℤ → (ℕ → ℚ) → (ℕ → ℕ → ℚ) → ℕ → ℕ → List ℤ → List ℤ → Type 0
AreAllTaken d a x m n old new = (j : ℕ) → j < n → AreProductsTaken d a (λ k. x k j) m (whole_number_at old j) (whole_number_at new j)
