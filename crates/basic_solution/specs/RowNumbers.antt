-- The entries of a row, as numbers over one denominator.
use Rattle.std.specs.Prelude.{◌≡◌, ℕ, ◌<◌, ℤ, List, length}
use Rattle.frac128.specs.LowestTerms.{quotient_of}
use Rattle.table_entries.specs.WholeSteps.{AreShort, whole_number_at}
use Rattle.basic_solution.specs.Held.{Held, table}

-- by place these are the numbers over the denominator that the entries of the row are
pub record AreEntryNumbers (s : Held) (row : ℕ) (denominator : ℤ) (numbers : List ℤ) : Type 0 where
  pub size : length numbers ≡ s.tableau.columns
  pub short : AreShort numbers
  pub entries : (k : ℕ) → k < s.tableau.columns → (table s).entry row k ≡ quotient_of (whole_number_at numbers k) denominator
