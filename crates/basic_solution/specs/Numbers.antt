-- The numbers of a state: which terms of them have room, which is the first that has none, and which of them are outside a side.
use Rattle.std.specs.Prelude.{◌≡◌, ℕ, zero, suc, ◌<◌, pos, Option, Some, None, Result, Ok, Err}
use Rattle.std.specs.Option.{IsSomeAnd}
use Rattle.frac128.specs.Rational.{ℚ, int}
use Rattle.checked_sum.specs.Steps.{AllFit, IsFirstWide}
use Rattle.lp_model.specs.WideSteps.{TablePlace, Point, Cost, table_place}
use Rattle.lp_model.specs.declared.types.WideStep.{WideStep}
use Rattle.table_entries.specs.declared.stand.Stand.{Stand}
use Rattle.table_entries.specs.Relaxation.{reduced_cost, point, multipliers}
use Rattle.table_entries.specs.States.{IsOutside}
use Rattle.table_entries.specs.Steps.{PointFits, CostFits, at_nonbasic, at_basic}
use Rattle.row_tableau.specs.Variables.{variable_number}
use Rattle.basic_solution.specs.Held.{Held, relaxation, parts, state, table, variables}

-- ---- terms without room

-- the term of `k` in the value of the basic variable of the row has no room
pub record IsWidePoint (s : Held) (row b k : ℕ) : Type 0 where
  pub within : row < s.tableau.activities
  pub basic : b ≡ (table s).basic row
  pub wide : ¬ (PointFits (relaxation s) (table s) (state s).at row k)

-- the term of `b` in the reduced cost of the place has no room
pub record IsWideCostTerm (s : Held) (place k b : ℕ) : Type 0 where
  pub within : place < s.tableau.columns
  pub nonbasic : k ≡ (table s).nonbasic place
  pub wide : ¬ (CostFits (relaxation s) (table s) (relaxation s).cost place b)

-- ---- the terms of one number, in the order of the variables

-- the first n terms in the value of the basic variable of the row have room
abbrev pub ValueFits : Held → ℕ → ℕ → Type 0
ValueFits s row n = AllFit (int (pos 0)) (at_nonbasic (relaxation s) (table s) ((table s).entry row)) (at_nonbasic (relaxation s) (table s) (state s).at) n

-- the term of v is the first of them that has none
abbrev pub IsFirstWideValue : Held → ℕ → ℕ → Type 0
IsFirstWideValue s row v = IsFirstWide (int (pos 0)) (at_nonbasic (relaxation s) (table s) ((table s).entry row)) (at_nonbasic (relaxation s) (table s) (state s).at) (variables s) v

-- the first n terms in the reduced cost of the place have room
abbrev pub CostsFit : Held → ℕ → ℕ → Type 0
CostsFit s place n = AllFit ((relaxation s).cost ((table s).nonbasic place)) (relaxation s).cost (at_basic (relaxation s) (table s) (λ i. (table s).entry i place)) n

-- the term of v is the first of them that has none
abbrev pub IsFirstWideReducedCost : Held → ℕ → ℕ → Type 0
IsFirstWideReducedCost s place v = IsFirstWide ((relaxation s).cost ((table s).nonbasic place)) (relaxation s).cost (at_basic (relaxation s) (table s) (λ i. (table s).entry i place)) (variables s) v

-- of the terms in the value of b, which is basic in the row, that of k is the first without room
pub record IsValueNamed (s : Held) (row b k : ℕ) : Type 0 where
  pub within : row < s.tableau.activities
  pub basic : b ≡ (table s).basic row
  pub first : IsFirstWideValue s row k

-- of the terms in the reduced cost of k, which stands at the place, that of b is the first without room
pub record IsCostNamed (s : Held) (place k b : ℕ) : Type 0 where
  pub within : place < s.tableau.columns
  pub nonbasic : k ≡ (table s).nonbasic place
  pub first : IsFirstWideReducedCost s place b

abbrev pub IsValuePlace : Held → ℕ → TablePlace → Type 0
IsValuePlace s row (Point b k) = IsValueNamed s row (variable_number s.tableau b) (variable_number s.tableau k)
IsValuePlace s row other = ⊥

-- the step is the first without room in the value of the basic variable of the row
abbrev pub IsWideBasicValue : Held → ℕ → WideStep → Type 0
IsWideBasicValue s row step = IsSomeAnd (table_place step) (IsValuePlace s row)

abbrev pub IsPlaceCost : Held → ℕ → TablePlace → Type 0
IsPlaceCost s place (Cost k b) = IsCostNamed s place (variable_number s.tableau k) (variable_number s.tableau b)
IsPlaceCost s place other = ⊥

-- the step is the first without room in the reduced cost of the place
abbrev pub IsWideCost : Held → ℕ → WideStep → Type 0
IsWideCost s place step = IsSomeAnd (table_place step) (IsPlaceCost s place)

-- only the part of the costs has terms: in each part behind it one variable alone has a cost
abbrev pub ReducedFits : Held → ℕ → ℕ → Type 0
ReducedFits s place zero = CostsFit s place (variables s)
ReducedFits s place (suc q) = Unit {0}

abbrev pub IsWideReduced : Held → ℕ → ℕ → WideStep → Type 0
IsWideReduced s place zero e = IsWideCost s place e
IsWideReduced s place (suc q) e = ⊥

abbrev pub IsPartAnswer : Held → ℕ → ℕ → Result ℚ WideStep → Type 0
IsPartAnswer s place part (Ok x) = ReducedFits s place part × (x ≡ reduced_cost (relaxation s) (table s) (parts s part) place)
IsPartAnswer s place part (Err e) = IsWideReduced s place part e

-- ---- the number of a variable at the state's point, and its multiplier

-- where it is basic, each term of its value has room
abbrev pub NumberFits : Held → ℕ → Type 0
NumberFits s v = (row : ℕ) → row < s.tableau.activities → (table s).basic row ≡ v → ValueFits s row (variables s)

-- it is basic, and the step is the first without room in its value
abbrev pub IsWideNumber : Held → ℕ → WideStep → Type 0
IsWideNumber s v e = (row : ℕ) × (((table s).basic row ≡ v) × IsWideBasicValue s row e)

abbrev pub IsNumberAnswer : Held → ℕ → Result ℚ WideStep → Type 0
IsNumberAnswer s v (Ok x) = NumberFits s v × (x ≡ point (relaxation s) (table s) (state s).at v)
IsNumberAnswer s v (Err e) = IsWideNumber s v e

-- where it is not basic, each term of its reduced cost has room
abbrev pub MultiplierFits : Held → ℕ → Type 0
MultiplierFits s v = (place : ℕ) → place < s.tableau.columns → (table s).nonbasic place ≡ v → CostsFit s place (variables s)

-- it is not basic, and the step is the first without room in its reduced cost
abbrev pub IsWideMultiplier : Held → ℕ → WideStep → Type 0
IsWideMultiplier s v e = (place : ℕ) × (((table s).nonbasic place ≡ v) × IsWideCost s place e)

abbrev pub IsMultiplierAnswer : Held → ℕ → Result ℚ WideStep → Type 0
IsMultiplierAnswer s v (Ok x) = MultiplierFits s v × (x ≡ multipliers (relaxation s) (table s) (relaxation s).cost v)
IsMultiplierAnswer s v (Err e) = IsWideMultiplier s v e

-- ---- who is outside a side

-- no basic variable of the row is outside a side
abbrev pub IsInside : Held → ℕ → Type 0
IsInside s row = (side : Stand) (b : ℚ) → ¬ (IsOutside (relaxation s) (state s) row side b)

abbrev pub IsOut : Held → ℕ → Stand → Type 0
IsOut s row side = (b : ℚ) × IsOutside (relaxation s) (state s) row side b

-- the side that it is outside of, if any, where each term of its value has room, else the first that has none
abbrev pub IsRowBreach : Held → ℕ → Result (Option Stand) WideStep → Type 0
IsRowBreach s row (Ok None) = ValueFits s row (variables s) × IsInside s row
IsRowBreach s row (Ok (Some side)) = ValueFits s row (variables s) × IsOut s row side
IsRowBreach s row (Err e) = IsWideBasicValue s row e
