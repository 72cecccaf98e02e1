-- What is proved of bases, states and rays, law by law.
use Rattle.std.specs.Prelude.{◌≡◌, ◌≢◌, ◌⊎◌, ℕ, suc, ◌<◌, ◌≤◌, List, pos}
use Rattle.frac128.specs.Rational.{ℚ, int, ◌≤ℚ◌, ◌<ℚ◌}
use Rattle.table_entries.specs.Relaxation.{Relaxation, Table, Solves, IsArranged, pivoted, point, total_cost, multipliers, left_of, IsLag, IsWithin, HasNoCrossedSides}
use Rattle.table_entries.specs.declared.stand.Stand.{Stand}
use Rattle.table_entries.specs.States.{State, IsFree, perturbed, Separates, Standing, IsDualFeasible, IsGood, key, IsLess, IsOutside, MayEnter, Enters, IsStep, SameState, farkas_weights}
use Rattle.table_entries.specs.Bases.{IsTableOf, IsNamedBy, IsNonsingular, IsStuck}
use Rattle.table_entries.specs.Directions.{directions, Continues, model_state, IsRelaxationRay}

-- an exchange leads from a table of the relaxation to one
abbrev pub ExchangeLaw : Type 0
ExchangeLaw = (p : Relaxation) (d : Table) (r s : ℕ) → r < p.activities → s < p.columns → d.entry r s ≢ int (pos 0) → IsTableOf p d → IsTableOf p (pivoted d r s)

-- tables of one list of basic variables have the same entries
abbrev pub OneTableLaw : Type 0
OneTableLaw =
    (p : Relaxation) (list : List ℕ) (d e : Table) → IsTableOf p d → IsTableOf p e → IsNamedBy p.activities list d → IsNamedBy p.activities list e
    → (i j k l : ℕ) → i < p.activities → j < p.activities → k < p.columns → l < p.columns → d.basic i ≡ e.basic j → d.nonbasic k ≡ e.nonbasic l → d.entry i k ≡ e.entry j l

-- where no basic variable may leave for the next of a list, the list is no basis
abbrev pub StuckLaw : Type 0
StuckLaw = (p : Relaxation) (list : List ℕ) (d : Table) → IsTableOf p d → IsStuck p.columns p.activities list d → ¬ (IsNonsingular p list)

-- numbers within the sides have at least the number of any multipliers as their sum of multiplier times number
abbrev pub WeakDualityLaw : Type 0
WeakDualityLaw = (p : Relaxation) (y : ℕ → ℚ) (z : ℚ) (x : ℕ → ℚ) → IsLag p y z → IsWithin p x → z ≤ℚ total_cost p y x

-- at a lawful state the number of the multipliers is the value of the point, and no solution within the sides has a lesser value
pub record IsDual (p : Relaxation) (c : ℕ → ℚ) (st : State) : Type 0 where
  pub lag : IsLag p (multipliers p st.table c) (total_cost p c (point p st.table st.at))
  pub least : (x : ℕ → ℚ) → Solves p x → IsWithin p x → total_cost p c (point p st.table st.at) ≤ℚ total_cost p c x

abbrev pub StrongDualityLaw : Type 0
StrongDualityLaw = (p : Relaxation) (parts : ℕ → ℕ → ℚ) (st : State) → IsGood p parts st → IsDual p (parts 0) st

-- where a basic variable is outside a side and none may enter, its row gives a number above 0 with costs 0, and no solution is within the sides
pub record IsFarkas (p : Relaxation) (y : ℕ → ℚ) : Type 0 where
  pub number : ℚ
  pub lag : IsLag p y number
  pub positive : int (pos 0) <ℚ number
  pub columns : (j : ℕ) → j < p.columns → left_of p (λ v. int (pos 0)) y j ≡ y j
  pub empty : (x : ℕ → ℚ) → Solves p x → ¬ (IsWithin p x)

abbrev pub RefutedBasisLaw : Type 0
RefutedBasisLaw =
    (p : Relaxation) (st : State) → IsTableOf p st.table → ((k : ℕ) → k < p.columns → Standing p (st.table.nonbasic k) (st.stand k) (st.at k))
    → (r : ℕ) (side : Stand) (b : ℚ) → r < p.activities → IsOutside p st r side b → ((k : ℕ) → k < p.columns → ¬ (MayEnter side (st.stand k) (st.table.entry r k)))
    → IsFarkas p (farkas_weights p st r side)

-- costs perturbed by tilts, one for each variable with a side and each in a part of its own, separate the variables
abbrev pub SeparationLaw : Type 0
SeparationLaw =
    (p : Relaxation) (tilt : ℕ → ℚ) (rank : ℕ → ℕ) → ((v : ℕ) → ¬ (IsFree p v) → tilt v ≢ int (pos 0)) → ((u v : ℕ) → rank u ≡ rank v → u ≡ v) → Separates p (perturbed p tilt rank)

-- where costs have finitely many parts, one variable enters by the rule or none may
abbrev pub EnteringLaw : Type 0
EnteringLaw =
    (p : Relaxation) (parts : ℕ → ℕ → ℚ) (n : ℕ) → ((q v : ℕ) → n ≤ q → parts q v ≡ int (pos 0)) → (st : State) → IsArranged p st.table → (r : ℕ) (side : Stand)
    → ((k : ℕ) → k < p.columns → ¬ (MayEnter side (st.stand k) (st.table.entry r k))) ⊎ ((s : ℕ) × (Enters p parts st r side s × ((u : ℕ) → Enters p parts st r side u → s ≡ u)))

-- a step leads from a lawful state to a lawful one with a greater key
abbrev pub StepLaw : Type 0
StepLaw =
    (p : Relaxation) (parts : ℕ → ℕ → ℚ) → Separates p parts → (st after : State) → IsGood p parts st → IsStep p parts st after
    → IsGood p parts after × IsLess (key p parts st) (key p parts after)

-- no state comes twice in a row of steps, in whatever order of rows and places
abbrev pub NoStateTwiceLaw : Type 0
NoStateTwiceLaw =
    (p : Relaxation) (parts : ℕ → ℕ → ℚ) → Separates p parts → (n : ℕ) (states : ℕ → State) → IsGood p parts (states 0) → ((t : ℕ) → t < n → IsStep p parts (states t) (states (suc t)))
    → (t u : ℕ) → t < u → u ≤ n → ¬ (SameState p (states t) (states u))

-- the next state is a function of the state: steps from one state, in whatever order of rows and places, lead to one state
abbrev pub NextStateLaw : Type 0
NextStateLaw =
    (p : Relaxation) (parts : ℕ → ℕ → ℚ) → HasNoCrossedSides p → (st other after also : State) → IsGood p parts st → IsGood p parts other → SameState p st other → IsStep p parts st after → IsStep p parts other also
    → SameState p after also

-- an optimum of the directions with a value below 0 is a ray, and else the basis is lawful for the model
abbrev pub RayLaw : Type 0
RayLaw = (p : Relaxation) (x : ℕ → ℚ) → Solves p x → IsWithin (directions p) x → total_cost p p.cost x <ℚ int (pos 0) → IsRelaxationRay p x

abbrev pub DirectionsLaw : Type 0
DirectionsLaw =
    (p : Relaxation) (parts longer : ℕ → ℕ → ℚ) → Separates p parts → Continues p parts longer → (st : State) → IsArranged p st.table → IsDualFeasible (directions p) longer st
    → IsWithin (directions p) (point p st.table st.at) → int (pos 0) ≤ℚ total_cost p (longer 0) (point p st.table st.at) → IsDualFeasible p parts (model_state p st)

-- where the costs have a lawful state there is no ray
abbrev pub NoRayLaw : Type 0
NoRayLaw = (p : Relaxation) (parts : ℕ → ℕ → ℚ) → ((v : ℕ) → parts 0 v ≡ p.cost v) → (st : State) → IsGood p parts st → (x : ℕ → ℚ) → ¬ (IsRelaxationRay p x)
