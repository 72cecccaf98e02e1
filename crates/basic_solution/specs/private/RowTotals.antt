-- What contracts of private functions alone cite, beside specs/RowTotals.
use Rattle.std.specs.Prelude.{◌≡◌, ℕ, ℤ}
use Rattle.frac128.specs.LowestTerms.{quotient_of}
use Rattle.table_entries.specs.States.{basic_value}
use Rattle.whole_sums.specs.Wholes.{HasMargin}
use Rattle.basic_solution.specs.Held.{Held, relaxation, state, variables}
use Rattle.basic_solution.specs.Numbers.{ValueFits}

-- over the denominator the total is the value of the basic variable of the row, and each of its terms has room
pub record IsRowTotal (s : Held) (row : ℕ) (denominator total : ℤ) : Type 0 where
  pub margin : HasMargin total
  pub fits : ValueFits s row (variables s)
  pub value : quotient_of total denominator ≡ basic_value (relaxation s) (state s) row
