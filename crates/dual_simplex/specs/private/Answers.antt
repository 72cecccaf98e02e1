-- What contracts of private functions alone cite, beside specs/Answers.
use Rattle.std.specs.Prelude.{◌≡◌, ℕ, ◌<◌, Option, Some, None, Result, Ok, Err}
use Rattle.frac128.specs.Rational.{ℚ}
use Rattle.lp_model.specs.declared.types.WideStep.{WideStep}
use Rattle.table_entries.specs.declared.stand.Stand.{Stand}
use Rattle.basic_solution.specs.Held.{Held, table, variables}
use Rattle.dual_simplex.specs.declared.leaving.Leaving.{Leaving}
use Rattle.basic_solution.specs.Numbers.{ValueFits, IsWideBasicValue, IsInside, IsOut}
use Rattle.dual_simplex.specs.Answers.{IsFirstOut, AreAllInside, HaveValuesTo, IsWideLeaving, ratios, PartFits, IsWidePart, IsLeastBelow, AreCompared, IsWideEntering}

-- the variables before n that are basic are within their sides, and each term of their values has room
abbrev pub AreInside : Held → ℕ → Type 0
AreInside s n = (v : ℕ) → v < n → (row : ℕ) → row < s.tableau.activities → (table s).basic row ≡ v → ValueFits s row (variables s) × IsInside s row

-- the variable is not basic, or is within its sides; or it is basic in a row and outside one; or its value has a step without room
abbrev pub IsVisited : Held → ℕ → Result (Option Leaving) WideStep → Type 0
IsVisited s v (Ok None) = (row : ℕ) → row < s.tableau.activities → (table s).basic row ≡ v → ValueFits s row (variables s) × IsInside s row
IsVisited s v (Ok (Some leaving)) = (leaving.row < s.tableau.activities) × (((table s).basic leaving.row ≡ v) × (ValueFits s leaving.row (variables s) × IsOut s leaving.row leaving.side))
IsVisited s v (Err e) = (row : ℕ) × ((row < s.tableau.activities) × (((table s).basic row ≡ v) × IsWideBasicValue s row e))

abbrev pub IsLeaving : Held → Result (Option Leaving) WideStep → Type 0
IsLeaving s (Ok None) = AreAllInside s
IsLeaving s (Ok (Some leaving)) = IsFirstOut s leaving.row leaving.side × HaveValuesTo s ((table s).basic leaving.row)
IsLeaving s (Err e) = IsWideLeaving s e

-- the part, where each step to it has room, else the first that has none
abbrev pub IsRatioAnswer : Held → ℕ → Stand → ℕ → ℕ → Result ℚ WideStep → Type 0
IsRatioAnswer s row side place q (Ok x) = PartFits s row place q × (x ≡ ratios s row side place q)
IsRatioAnswer s row side place q (Err e) = IsWidePart s row place q e

abbrev pub IsEntering : Held → ℕ → Stand → ℕ → Result (Option ℕ) WideStep → Type 0
IsEntering s row side n (Ok found) = IsLeastBelow s row side n found × AreCompared s row side n
IsEntering s row side n (Err e) = IsWideEntering s row side n e
