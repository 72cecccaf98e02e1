-- What contracts of private functions alone cite, beside specs/Numbers.
use Rattle.std.specs.Prelude.{◌≡◌, ℕ, Result, Ok, Err}
use Rattle.frac128.specs.Rational.{ℚ}
use Rattle.lp_model.specs.declared.types.WideStep.{WideStep}
use Rattle.table_entries.specs.Relaxation.{reduced_cost}
use Rattle.table_entries.specs.States.{basic_value}
use Rattle.basic_solution.specs.Held.{Held, relaxation, state, table, variables}
use Rattle.basic_solution.specs.Numbers.{ValueFits, CostsFit, IsWideBasicValue, IsWideCost}

-- the value of the basic variable of the row, where each of its terms has room, else the first that has none
abbrev pub IsBasicValueAnswer : Held → ℕ → Result ℚ WideStep → Type 0
IsBasicValueAnswer s row (Ok x) = ValueFits s row (variables s) × (x ≡ basic_value (relaxation s) (state s) row)
IsBasicValueAnswer s row (Err e) = IsWideBasicValue s row e

-- the reduced cost of the place likewise
abbrev pub IsReducedCostAnswer : Held → ℕ → Result ℚ WideStep → Type 0
IsReducedCostAnswer s place (Ok x) = CostsFit s place (variables s) × (x ≡ reduced_cost (relaxation s) (table s) (relaxation s).cost place)
IsReducedCostAnswer s place (Err e) = IsWideCost s place e
