-- The variables that stand at other numbers than 0: their places, by variable, and beside them their numbers where these are small whole ones.
use Rattle.std.specs.Prelude.{◌≡◌, ◌⊎◌, ℕ, ◌<◌, ◌≤◌, List, length, get_or, ℤ, pos}
use Rattle.frac128.specs.Rational.{ℚ, int, ◌*ℚ◌}
use Rattle.frac128.specs.Sums.{sum_below}
use Rattle.table_entries.specs.Steps.{at_nonbasic}
use Rattle.table_entries.specs.WholeSteps.{IsShort, whole_number_at}
use Rattle.basic_solution.specs.Held.{Held, relaxation, state, table, variables}
use Rattle.basic_solution.specs.RowTotals.{IsSmallNumber}

-- the terms of the variables below v in the sum of f times the numbers at which variables stand
abbrev pub sum_to : Held → (ℕ → ℚ) → ℕ → ℚ
sum_to s f v = sum_below v (λ u. at_nonbasic (relaxation s) (table s) f u *ℚ at_nonbasic (relaxation s) (table s) (state s).at u)

-- the number at which the variable of a place in the list stands
abbrev pub listed_number : Held → List ℕ → ℕ → ℚ
listed_number s places j = (state s).at (get_or places j 0)

-- the first n terms of the same sum by the list
abbrev pub listed_sum : Held → List ℕ → (ℕ → ℚ) → ℕ → ℚ
listed_sum s places f n = sum_below n (λ j. f (get_or places j 0) *ℚ listed_number s places j)

-- the variable of a place in the list
abbrev pub listed_variable : Held → List ℕ → ℕ → ℕ
listed_variable s places j = (table s).nonbasic (get_or places j 0)

-- the first n places are those of the variables below v that stand at other numbers than 0, rising
pub record AreStandingTo (s : Held) (v : ℕ) (places : List ℕ) (n : ℕ) : Type 0 where
  pub few : n ≤ v
  pub size : n ≤ length places
  pub within : (j : ℕ) → j < n → get_or places j 0 < s.tableau.columns
  pub below : (j : ℕ) → j < n → listed_variable s places j < v
  pub rising : (i j : ℕ) → i < j → j < n → listed_variable s places i < listed_variable s places j
  pub others : (u : ℕ) → u < v → (at_nonbasic (relaxation s) (table s) (state s).at u ≡ int (pos 0)) ⊎ ((j : ℕ) × ((j < n) × (listed_variable s places j ≡ u)))
  pub earlier : (f : ℕ → ℚ) (j : ℕ) → j < n → sum_to s f (listed_variable s places j) ≡ listed_sum s places f j
  pub sums : (f : ℕ → ℚ) → sum_to s f v ≡ listed_sum s places f n

-- the first n numbers that are small are those at which the variables of the places stand
pub record AreStandingNumbers (s : Held) (places : List ℕ) (numbers : List ℤ) (n : ℕ) : Type 0 where
  pub size : n ≤ length numbers
  pub short : (j : ℕ) → j < n → IsShort (whole_number_at numbers j)
  pub stands : (j : ℕ) → j < n → IsSmallNumber (whole_number_at numbers j) → listed_number s places j ≡ int (whole_number_at numbers j)

pub record AreStanding (s : Held) (places : List ℕ) (numbers : List ℤ) (n : ℕ) : Type 0 where
  pub listed : AreStandingTo s (variables s) places n
  pub numbered : AreStandingNumbers s places numbers n
