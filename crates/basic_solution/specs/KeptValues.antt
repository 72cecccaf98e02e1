-- Values of basic variables that are kept from one state to the next: numbers by row over one denominator, as far as they are known.
use Rattle.std.specs.Prelude.{◌≡◌, ℕ, ◌<◌, ℤ, pos, ◌<ℤ◌, List, length}
use Rattle.frac128.specs.LowestTerms.{quotient_of}
use Rattle.table_entries.specs.States.{basic_value}
use Rattle.table_entries.specs.WholeSteps.{IsShort, whole_number_at}
use Rattle.basic_solution.specs.Held.{Held, relaxation, state}
use Rattle.basic_solution.specs.KeptCosts.{AreShortOrMarks}

-- there is a number for each row, and where it is short, it is the value of the row's basic variable times the denominator
pub record AreKeptValues (s : Held) (denominator : ℤ) (numbers : List ℤ) : Type 0 where
  pub positive : pos 0 <ℤ denominator
  pub denominator_short : IsShort denominator
  pub size : length numbers ≡ s.tableau.activities
  pub range : AreShortOrMarks numbers
  pub value : (i : ℕ) → i < s.tableau.activities → IsShort (whole_number_at numbers i) → quotient_of (whole_number_at numbers i) denominator ≡ basic_value (relaxation s) (state s) i
