-- What contracts of private functions alone cite, beside specs/ListedStates.
use Rattle.std.specs.Prelude.{ℕ, Bool, true, false, IsTrue, ◌↔◌, get_or, Result, Ok, Err}
use Rattle.lp_model.specs.declared.types.Basis.{Basis}
use Rattle.lp_model.specs.declared.types.WideStep.{WideStep}
use Rattle.table_entries.specs.declared.stand.Stand.TheVariants.{Free}
use Rattle.table_entries.specs.Bases.{IsNamedBy}
use Rattle.row_tableau.specs.Variables.{numbers}
use Rattle.row_tableau.specs.Answers.{IsLeftOff}
use Rattle.basic_solution.specs.Held.{Held, table, variables}
use Rattle.basic_solution.specs.Numbers.{CostsFit, IsWideCost}
use Rattle.basic_solution.specs.Slack.{IsPlaced}
use Rattle.basic_solution.specs.ListedStates.{IsWideExchange}

-- what comes of bringing a list in: true where it is, and false where it is left off
abbrev pub IsBroughtTo : Held → Basis → Result Bool WideStep → Held → Type 0
IsBroughtTo s list (Ok true) after = IsNamedBy after.tableau.activities (numbers after.tableau list.basic) (table after)
IsBroughtTo s list (Ok false) after = IsLeftOff s.tableau (numbers s.tableau list.basic) after.tableau
IsBroughtTo s list (Err e) after = IsWideExchange list after e

-- whether the variable of a place stands where its reduced cost asks it to, where each term of that has room, else the first that has none
abbrev pub IsPlaceAnswer : Held → ℕ → Result Bool WideStep → Type 0
IsPlaceAnswer s k (Ok b) = CostsFit s k (variables s) × (IsTrue b ↔ IsPlaced s k (get_or s.stands k Free))
IsPlaceAnswer s k (Err e) = IsWideCost s k e
