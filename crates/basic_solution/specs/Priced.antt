-- The rows whose basic variable has a cost, rising, and beside them these costs.
use Rattle.std.specs.Prelude.{◌≡◌, ◌⊎◌, ℕ, ◌<◌, ◌≤◌, List, length, get_or, ℤ, pos}
use Rattle.frac128.specs.Rational.{ℚ, int, ◌*ℚ◌}
use Rattle.frac128.specs.Sums.{sum_below}
use Rattle.table_entries.specs.WholeSteps.{whole_number_at}
use Rattle.basic_solution.specs.Held.{Held, relaxation, table}
use Rattle.basic_solution.specs.RowTotals.{IsSmallNumber}

-- the cost of the basic variable of a row
abbrev pub row_cost : Held → ℕ → ℚ
row_cost s i = (relaxation s).cost ((table s).basic i)

-- the first n rows are those below r whose basic variable has a cost, each a column, and the numbers are these costs
pub record ArePricedTo (s : Held) (r : ℕ) (rows : List ℕ) (numbers : List ℤ) (n : ℕ) : Type 0 where
  pub few : n ≤ r
  pub size : n ≤ length rows
  pub numbers_size : n ≤ length numbers
  pub within : (j : ℕ) → j < n → get_or rows j 0 < r
  pub columns : (j : ℕ) → j < n → (table s).basic (get_or rows j 0) < s.tableau.columns
  pub small : (j : ℕ) → j < n → IsSmallNumber (whole_number_at numbers j)
  pub costs : (j : ℕ) → j < n → row_cost s (get_or rows j 0) ≡ int (whole_number_at numbers j)
  pub others : (i : ℕ) → i < r → (row_cost s i ≡ int (pos 0)) ⊎ ((j : ℕ) × ((j < n) × (get_or rows j 0 ≡ i)))
  pub sums : (f : ℕ → ℚ) → sum_below r (λ i. row_cost s i *ℚ f i) ≡ sum_below n (λ j. row_cost s (get_or rows j 0) *ℚ f (get_or rows j 0))

-- of all rows
abbrev pub ArePriced : Held → List ℕ → List ℤ → ℕ → Type 0
ArePriced s rows numbers n = ArePricedTo s s.tableau.activities rows numbers n
