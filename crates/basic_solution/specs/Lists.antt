-- The lists that a state gives, each in the order of the variables.
use Rattle.std.specs.Prelude.{◌≡◌, ◌≢◌, ℕ, ◌<◌, ◌≤◌, List, length, map, pos, All, Result, Ok, Err}
use Rattle.frac128.specs.Rational.{ℚ, int}
use Rattle.lp_model.specs.Program.{coordinate}
use Rattle.lp_model.specs.declared.types.Var.{Var}
use Rattle.lp_model.specs.declared.types.Basis.{Basis}
use Rattle.table_entries.specs.declared.stand.Stand.TheVariants.{High}
use Rattle.table_entries.specs.Bases.{listed, Lists}
use Rattle.table_entries.specs.Relaxation.{point}
use Rattle.row_tableau.specs.Variables.{numbers, variable_number}
use Rattle.row_tableau.specs.Answers.{IsBasic}
use Rattle.basic_solution.specs.Held.{Held, relaxation, state, table, variables}
use Rattle.basic_solution.specs.Numbers.{NumberFits, IsWideNumber, MultiplierFits, IsWideMultiplier}
use Rattle.lp_model.specs.declared.types.WideStep.{WideStep}

-- the numbers below n of which P holds, each once and rising
pub record AreRising (P : ℕ → Type 0) (n : ℕ) (list : List ℕ) : Type 0 where
  pub rises : (j k : ℕ) → j < k → k < length list → listed list j < listed list k
  pub within : (t : ℕ) → t < length list → listed list t < n
  pub holds : (t : ℕ) → t < length list → P (listed list t)
  pub all : (v : ℕ) → v < n → P v → Lists list v

-- ---- the basis

-- the variable is not basic and stands at its high side
abbrev pub StandsHigh : Held → ℕ → Type 0
StandsHigh s v = (k : ℕ) × ((k < s.tableau.columns) × (((table s).nonbasic k ≡ v) × ((state s).stand k ≡ High)))

abbrev pub AreBasic : Held → List Var → Type 0
AreBasic s list = AreRising (IsBasic s.tableau) (variables s) (numbers s.tableau list)

abbrev pub AreHigh : Held → List Var → Type 0
AreHigh s list = AreRising (StandsHigh s) (variables s) (numbers s.tableau list)

pub record IsBasisOf (s : Held) (basis : Basis) : Type 0 where
  pub basic : AreBasic s basis.basic
  pub high : AreHigh s basis.high

-- ---- numbers

-- the point's number of each column
pub record IsPointOfHeld (s : Held) (x : List ℚ) : Type 0 where
  pub size : length x ≡ s.tableau.columns
  pub numbers : (j : ℕ) → j < s.tableau.columns → coordinate x j ≡ point (relaxation s) (table s) (state s).at j

abbrev pub names : List (Var × ℚ) → List Var
names list = map (λ m. m.0) list

-- an activity whose multiplier is not 0
abbrev pub HasMultiplier : Held → (ℕ → ℚ) → ℕ → Type 0
HasMultiplier s y v = (s.tableau.columns ≤ v) × (y v ≢ int (pos 0))

-- the activities whose multipliers are not 0, with these
pub record AreListedMultipliers (s : Held) (y : ℕ → ℚ) (list : List (Var × ℚ)) : Type 0 where
  pub named : AreRising (HasMultiplier s y) (variables s) (numbers s.tableau (names list))
  pub values : All (λ m. m.1 ≡ y (variable_number s.tableau m.0)) list

-- the step is the first without room in the number of a column, and each column before has a number whose terms have room
pub record IsWideColumn (s : Held) (step : WideStep) : Type 0 where
  pub column : ℕ
  pub within : column < s.tableau.columns
  pub before : (j : ℕ) → j < column → NumberFits s j
  pub wide : IsWideNumber s column step

-- the list, where each term of its numbers has room, else the first that has none
abbrev pub IsPointAnswer : Held → Result (List ℚ) WideStep → Type 0
IsPointAnswer s (Ok x) = IsPointOfHeld s x × ((j : ℕ) → j < s.tableau.columns → NumberFits s j)
IsPointAnswer s (Err e) = IsWideColumn s e

-- the step is the first without room in the multiplier of an activity, and each activity before has a multiplier whose terms have room
pub record IsWideActivity (s : Held) (step : WideStep) : Type 0 where
  pub activity : ℕ
  pub behind : s.tableau.columns ≤ activity
  pub within : activity < variables s
  pub before : (v : ℕ) → s.tableau.columns ≤ v → v < activity → MultiplierFits s v
  pub wide : IsWideMultiplier s activity step

abbrev pub AreMultipliersAnswer : Held → (ℕ → ℚ) → Result (List (Var × ℚ)) WideStep → Type 0
AreMultipliersAnswer s y (Ok list) = AreListedMultipliers s y list × ((v : ℕ) → s.tableau.columns ≤ v → v < variables s → MultiplierFits s v)
AreMultipliersAnswer s y (Err e) = IsWideActivity s e
