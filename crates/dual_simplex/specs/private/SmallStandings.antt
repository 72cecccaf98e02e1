-- The variables that stand at other numbers than 0, where each of these is small.
use Rattle.std.specs.Prelude.{ℕ, ◌<◌, ℤ, List}
use Rattle.table_entries.specs.WholeSteps.{whole_number_at}
use Rattle.basic_solution.specs.Held.{Held}
use Rattle.basic_solution.specs.RowTotals.{IsSmallNumber}
use Rattle.basic_solution.specs.Standing.{AreStanding}

-- they are listed, and each of their numbers is small
abbrev pub AreSmallStanding : Held → List ℕ → List ℤ → ℕ → Type 0
AreSmallStanding s places numbers n = AreStanding s places numbers n × ((j : ℕ) → j < n → IsSmallNumber (whole_number_at numbers j))
