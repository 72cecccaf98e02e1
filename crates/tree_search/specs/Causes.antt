-- Why a search stops, as seen from its start, and what is enough for it to go to the end.
use Rattle.std.specs.Prelude.{◌≡◌, ◌⊎◌, ℕ, ◌-◌, ◌<◌, ◌≤◌, List, length, Some, Err}
use Rattle.lp_model.specs.Program.{Program, Point}
use Rattle.lp_model.specs.Regions.{Path}
use Rattle.lp_model.specs.declared.types.Basis.{Basis}
use Rattle.lp_model.specs.declared.types.WideStep.{WideStep}
use Rattle.lp_model.specs.declared.answers.PivotPlace.{PivotPlace}
use Rattle.lp_model.specs.declared.answers.WideAt.{WideAt}
use Rattle.lp_model.specs.declared.answers.StopWhy.{StopWhy}
use Rattle.lp_model.specs.declared.answers.StopWhy.TheVariants.{Nodes, Tree, Pivots, Wide}
use Rattle.sound_searches.specs.Sound.{PlainSearch}
use Rattle.search_counting.specs.Work.{whole_points, cap_of, HasRoomFor, work_of, IsRoomy}
use Rattle.basic_solution.specs.Held.{Held}
use Rattle.dual_simplex.specs.Answers.{HasLeaving}
use Rattle.basic_solution.specs.Lists.{IsBasisOf, IsPointOfHeld}
use Rattle.node_solve.specs.Runs.{IsSimplexRun}
use Rattle.node_solve.specs.Works.{IsRunWide}
use Rattle.tree_search.specs.Steps.{worked_model}
use Rattle.lp_model.specs.Formulations.{Formulation}
use Rattle.lp_model.specs.declared.types.CutRow.{CutRow}
use Rattle.model_points.specs.Answers.{IsValueAnswer}
use Rattle.node_solve.specs.Places.{with_cut_variables}
use Rattle.kept_cuts.specs.Kept.{derivations_of}
use Rattle.tree_search.specs.Room.{IsSelection, IsWorkedRegion, HasMoves, HasRoomAt, HasRoomForValues}
use Rattle.tree_search.specs.declared.searching.Ways.{Ways}
use Rattle.tree_search.specs.declared.searching.Ways.TheVariants.{Own, Rays}
use Rattle.tree_search.specs.declared.searching.Ended.{Ended}
use Rattle.tree_search.specs.declared.searching.Ended.TheVariants.{Finished, Within, Unbounded, Stopped}

-- after exactly so many moves from the start of a leaf's run a basic variable is outside a side, and the basis is that of the state there
pub record IsPivotCause (M : Program) (pool : List CutRow) (first : Basis) (limit : ℕ) (place : PivotPlace) : Type 0 where
  pub form : Formulation
  pub selection : IsSelection M pool form
  pub cuts_are : place.cuts ≡ derivations_of form.cuts
  pub path : Path
  pub path_is : place.path ≡ Some path
  pub region : IsWorkedRegion M path
  pub list : Basis
  pub state : Held
  pub run : IsSimplexRun form path list (with_cut_variables first 0 (length form.cuts)) limit state
  pub out : HasLeaving state
  pub basis_is : IsBasisOf state place.basis

-- after at most so many moves the value of the state's point in the search's own model has this first step without room
pub record IsWideValue (F : Formulation) (M : Program) (path : Path) (list first : Basis) (limit : ℕ) (basis : Basis) (step : WideStep) : Type 0 where
  pub moves : ℕ
  pub state : Held
  pub run : IsSimplexRun F path list (with_cut_variables first 0 (length F.cuts)) moves state
  pub few : moves ≤ limit
  pub basis_is : IsBasisOf state basis
  pub point : Point
  pub point_is : IsPointOfHeld state point
  pub wide : IsValueAnswer M 1 point (Err step)

abbrev pub IsWideValueBy : Ways → Formulation → Program → Path → Basis → Basis → ℕ → Basis → WideStep → Type 0
IsWideValueBy Own F M path list first limit basis step = ⊥
IsWideValueBy (Rays Z) F M path list first limit basis step = IsWideValue F M path list first limit basis step

-- the run of a leaf makes the step at that basis, and it has no room
pub record IsStepCause (ways : Ways) (M : Program) (pool : List CutRow) (first : Basis) (limit : ℕ) (at : WideAt) : Type 0 where
  pub path : Path
  pub path_is : at.path ≡ Some path
  pub region : IsWorkedRegion (worked_model ways M) path
  pub form : Formulation
  pub selection : IsSelection (worked_model ways M) pool form
  pub cuts_are : at.cuts ≡ derivations_of form.cuts
  pub list : Basis
  pub wide : IsRunWide form path list (with_cut_variables first 0 (length form.cuts)) limit (λ s. Unit {0}) at.basis at.step ⊎ IsWideValueBy ways form M path list first limit at.basis at.step

-- pool: the cuts that the search has in the end, of which each relaxation has some
-- the limit is below the most results; the tree has no room for the most splits; a run is too long; a step has no room
abbrev pub IsCause : PlainSearch → List CutRow → Ways → Basis → ℕ → ℕ → StopWhy → Type 0
IsCause S pool ways first nodes pivots Nodes = nodes < work_of S
IsCause S pool ways first nodes pivots Tree = ¬ IsRoomy S
IsCause S pool ways first nodes pivots (Pivots place) = IsPivotCause (worked_model ways S.model) pool first pivots place
IsCause S pool ways first nodes pivots (Wide at) = IsStepCause ways S.model pool first pivots at

-- a search that begins with S and these limits has a cause to stop, if it stops
abbrev pub HasStopCause : PlainSearch → List CutRow → Ways → Basis → ℕ → ℕ → Ended → Type 0
HasStopCause S pool ways first nodes pivots Finished = Unit {0}
HasStopCause S pool ways first nodes pivots (Within g) = Unit {0}
HasStopCause S pool ways first nodes pivots Unbounded = Unit {0}
HasStopCause S pool ways first nodes pivots (Stopped why) = IsCause S pool ways first nodes pivots why

-- ---- searches that go to the end

abbrev pub IsAtEnd : Ended → Type 0
IsAtEnd Finished = Unit {0}
IsAtEnd (Within g) = Unit {0}
IsAtEnd Unbounded = Unit {0}
IsAtEnd (Stopped why) = ⊥

abbrev pub HasOwnValues : Ways → List CutRow → Program → Type 0
HasOwnValues Own pool M = Unit {0}
HasOwnValues (Rays Z) pool M = HasRoomForValues Z.now pool M

-- as many results as any search of the model can place, room for one split fewer than it has points, more moves than any run
-- of its relaxations with at most 200 cuts of the pool that count has, and room for each of their steps. The pool is the one at the end.
pub record IsEnoughForSearch (S : PlainSearch) (pool : List CutRow) (ways : Ways) (nodes pivots : ℕ) : Type 0 where
  pub results : cap_of S.model ≤ nodes
  pub room : HasRoomFor (whole_points S.model - 1) S.tree
  pub moves : HasMoves (worked_model ways S.model) pool pivots
  pub steps : HasRoomAt (worked_model ways S.model) pool
  pub values : HasOwnValues ways pool S.model
