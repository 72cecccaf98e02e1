-- The values of basic cuts times the denominator of the table: by their terms, and by the numbers of the columns times it.
use Rattle.std.specs.Prelude.{◌≡◌, ℕ, ◌<◌, ◌≤◌, ℤ, pos, ◌<ℤ◌, List, length}
use Rattle.frac128.specs.LowestTerms.{quotient_of}
use Rattle.table_entries.specs.Relaxation.{point}
use Rattle.table_entries.specs.WholeSteps.{IsShort, whole_number_at}
use Rattle.basic_solution.specs.Held.{Held, relaxation, state, table}
use Rattle.basic_solution.specs.RowTotals.{HasSmallTerm}

-- ---- columns

-- over the denominator n is the number of the column at the state's point
pub record IsColumnTotal (s : Held) (column : ℕ) (denominator n : ℤ) : Type 0 where
  pub short : IsShort n
  pub value : quotient_of n denominator ≡ point (relaxation s) (table s) (state s).at column

-- those of all columns, in a table in which each term of a value is a product of a short and a small number over the denominator
pub record AreColumnTotals (s : Held) (denominator : ℤ) (totals : List ℤ) : Type 0 where
  pub positive : pos 0 <ℤ denominator
  pub denominator_short : IsShort denominator
  pub size : s.tableau.columns ≤ length totals
  pub each : (j : ℕ) → j < s.tableau.columns → IsColumnTotal s j denominator (whole_number_at totals j)
  pub terms : (i k : ℕ) → i < s.tableau.activities → k < s.tableau.columns → HasSmallTerm denominator ((table s).entry i k) ((state s).at k)
