-- Reduced costs that are kept from one state to the next: numbers by place over one denominator, as far as they are known.
use Rattle.std.specs.Prelude.{◌≡◌, ℕ, ◌<◌, ◌≤◌, ◌^◌, ℤ, pos, ◌<ℤ◌, unsigned_abs, List, length}
use Rattle.frac128.specs.LowestTerms.{quotient_of}
use Rattle.table_entries.specs.Relaxation.{reduced_cost}
use Rattle.table_entries.specs.WholeSteps.{IsShort, whole_number_at}
use Rattle.basic_solution.specs.Held.{Held, relaxation, table}

-- short, or the mark of a number that is not known
abbrev pub IsShortOrMark : ℤ → Type 0
IsShortOrMark n = unsigned_abs n ≤ 2 ^ 62

abbrev pub AreShortOrMarks : List ℤ → Type 0
AreShortOrMarks numbers = (k : ℕ) → IsShortOrMark (whole_number_at numbers k)

-- there is a number for each place, and where it is short, it is the reduced cost of the place times the denominator
pub record AreKeptCosts (s : Held) (denominator : ℤ) (numbers : List ℤ) : Type 0 where
  pub positive : pos 0 <ℤ denominator
  pub denominator_short : IsShort denominator
  pub size : length numbers ≡ s.tableau.columns
  pub range : AreShortOrMarks numbers
  pub value : (k : ℕ) → k < s.tableau.columns → IsShort (whole_number_at numbers k) → quotient_of (whole_number_at numbers k) denominator ≡ reduced_cost (relaxation s) (table s) (relaxation s).cost k
