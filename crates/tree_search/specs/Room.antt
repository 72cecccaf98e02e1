-- What the relaxations of a model with at most 200 cuts of a pool that count ask for, whatever their order: moves, and room for each step.
--     IsWorkedRegion M path     a region of integer columns that is not seen to be empty
--     IsSelection M pool F      the model with at most 200 cuts of the pool that count, in its order
--     HasMoves M pool limit     no run of its relaxations has as many moves as the limit
--     HasRoomAt M pool          no step at any basis of its relaxations is without room
use Rattle.std.specs.Prelude.{◌≡◌, ◌⊎◌, ℕ, ◌+◌, ◌<◌, ◌≤◌, List, [], ◌∷◌, length, get_or, Err}
use Rattle.std.specs.Option.{IsSomeAnd}
use Rattle.lp_model.specs.Program.{Program, Point}
use Rattle.lp_model.specs.Formulations.{Formulation}
use Rattle.lp_model.specs.declared.types.CutRow.{CutRow}
use Rattle.lp_model.specs.Regions.{Path, AreNarrow, IsEmptyRegion}
use Rattle.lp_model.specs.WideSteps.{TablePlace, Pivot, Point as PointPlace, Cost, RatioCost, Ratio, table_place}
use Rattle.lp_model.specs.declared.types.WideStep.{WideStep}
use Rattle.model_points.specs.Answers.{IsFeasibilityAnswer, IsValueAnswer}
use Rattle.table_entries.specs.declared.stand.Stand.{Stand}
use Rattle.table_entries.specs.Relaxation.{multipliers}
use Rattle.table_entries.specs.States.{Standing, farkas_weights}
use Rattle.row_tableau.specs.declared.relax.Relax.{Relax}
use Rattle.row_tableau.specs.Variables.{variable_number}
use Rattle.row_tableau.specs.Answers.{IsPivotNamed}
use Rattle.leaf_dual.specs.Dual.{Multipliers}
use Rattle.leaf_dual.specs.Answers.{IsLagAnswer, IsFarkasAnswer}
use Rattle.basic_solution.specs.Held.{Held, IsLawfulHeld, relaxation, state, table}
use Rattle.basic_solution.specs.Slack.{IsStateOfRelax}
use Rattle.basic_solution.specs.Numbers.{IsWidePoint, IsWideCostTerm, IsOut}
use Rattle.dual_simplex.specs.Answers.{IsWideRatio, May}
use Rattle.basic_solution.specs.Lists.{IsPointOfHeld, AreListedMultipliers}
use Rattle.dual_simplex.specs.Walks.{Moves}
use Rattle.node_solve.specs.Laws.{AreAllLive}
use Rattle.node_solve.specs.Runs.{NamesIntegers, IsPlainOf}

pub record IsWorkedRegion (M : Program) (path : Path) : Type 0 where
  pub names : NamesIntegers M path
  pub narrow : AreNarrow path
  pub some : ¬ IsEmptyRegion M path

-- some cuts of a list, in its order
abbrev pub AreAmong : List CutRow → List CutRow → Type 0
AreAmong [] pool = Unit {0}
AreAmong (c ∷ cuts) [] = ⊥
AreAmong (c ∷ cuts) (d ∷ pool) = ((c ≡ d) × AreAmong cuts pool) ⊎ AreAmong (c ∷ cuts) pool

pub record IsSelection (M : Program) (pool : List CutRow) (F : Formulation) : Type 0 where
  pub model : F.model ≡ M
  pub cuts : AreAmong F.cuts pool
  pub live : AreAllLive F.cuts
  pub few : length F.cuts ≤ 200

-- ---- moves

abbrev pub HasMoves : Program → List CutRow → ℕ → Type 0
HasMoves M pool limit =
    (F : Formulation) → IsSelection M pool F → (path : Path) → IsWorkedRegion M path → (relax : Relax) → IsPlainOf F path relax → (s : Held) → IsStateOfRelax relax s → IsLawfulHeld s → (n : ℕ) (after : Held) → Moves n s after → n < limit

-- ---- steps

-- each variable that is not basic stands at a side that it has, or at 0 where it has none
abbrev pub AllStand : Held → Type 0
AllStand s = (k : ℕ) → k < s.tableau.columns → Standing (relaxation s) ((table s).nonbasic k) ((state s).stand k) ((state s).at k)

-- the step is one at the table of the basis, and has no room: an entry after an exchange with any entry that is not 0, a term of a number or of a reduced cost, or a ratio
abbrev pub IsTableStep : Held → TablePlace → Type 0
IsTableStep s (Pivot r v i k) = (row : ℕ) × ((place : ℕ) × IsPivotNamed s.tableau row place r v i k)
IsTableStep s (PointPlace b k) = AllStand s × ((row : ℕ) × IsWidePoint s row (variable_number s.tableau b) (variable_number s.tableau k))
IsTableStep s (Cost k b) = (place : ℕ) × IsWideCostTerm s place (variable_number s.tableau k) (variable_number s.tableau b)
IsTableStep s (RatioCost r k) = (row : ℕ) × ((place : ℕ) × IsWideRatio s row place 0 (variable_number s.tableau r) (variable_number s.tableau k))
IsTableStep s (Ratio r k v) = (row : ℕ) × ((place : ℕ) × ((q : ℕ) × (IsWideRatio s row place (q + 1) (variable_number s.tableau r) (variable_number s.tableau k) × (variable_number s.tableau v ≡ get_or s.order q 0))))

-- the basic variable of the row is outside a side, and none may enter for it
pub record IsStuckAt (s : Held) (row : ℕ) (side : Stand) : Type 0 where
  pub within : row < s.tableau.activities
  pub out : IsOut s row side
  pub none : (k : ℕ) → k < s.tableau.columns → ¬ (May s row side k)

-- the step is one of the number of the multipliers at the basis, or of that of Farkas multipliers there
abbrev pub IsNumberStep : Formulation → Path → Held → WideStep → Type 0
IsNumberStep F path s step =
    ((mult : Multipliers) × (AreListedMultipliers s (multipliers (relaxation s) (table s) (relaxation s).cost) mult × IsLagAnswer F path mult (Err step)))
    ⊎ ((row : ℕ) × ((side : Stand) × (IsStuckAt s row side × ((farkas : Multipliers) × (AreListedMultipliers s (farkas_weights (relaxation s) (state s) row side) farkas × IsFarkasAnswer F path farkas (Err step))))))

-- the step is one of the test of the point at the basis, or of its value
abbrev pub IsPointStep : Program → Held → WideStep → Type 0
IsPointStep M s step = (x : Point) × (IsPointOfHeld s x × (IsFeasibilityAnswer M x (Err step) ⊎ IsValueAnswer M 1 x (Err step)))

-- the step is one of the relaxation at the basis of the state, and has no room
abbrev pub IsStepAt : Formulation → Path → Held → WideStep → Type 0
IsStepAt F path s step = IsSomeAnd (table_place step) (IsTableStep s) ⊎ (AllStand s × (IsNumberStep F path s step ⊎ IsPointStep F.model s step))

abbrev pub HasRoomAt : Program → List CutRow → Type 0
HasRoomAt M pool = (F : Formulation) → IsSelection M pool F → (path : Path) → IsWorkedRegion M path → (relax : Relax) → IsPlainOf F path relax → (s : Held) → IsStateOfRelax relax s → (step : WideStep) → ¬ IsStepAt F path s step

-- no value of M at a point of a basis of Z's relaxations has a step without room
abbrev pub HasRoomForValues : Program → List CutRow → Program → Type 0
HasRoomForValues Z pool M =
    (F : Formulation) → IsSelection Z pool F → (path : Path) → IsWorkedRegion Z path → (relax : Relax) → IsPlainOf F path relax → (s : Held) → IsStateOfRelax relax s → AllStand s → (x : Point) → IsPointOfHeld s x → (step : WideStep) → ¬ IsValueAnswer M 1 x (Err step)
