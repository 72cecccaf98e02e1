-- What is enough for a search to go to the end. The pool is that of the search in the end: a relaxation has at most 200 of its cuts that count.
use Rattle.std.specs.Prelude.{ℕ, ◌+◌, ◌*◌, ◌-◌, ◌<◌, ◌≤◌, ◌^◌, List}
use Rattle.lp_model.specs.Program.{Program, Point}
use Rattle.lp_model.specs.declared.types.CutRow.{CutRow}
use Rattle.lp_model.specs.declared.types.WideStep.{WideStep}
use Rattle.model_points.specs.Rays.{IsRay, without_costs}
use Rattle.basic_solution.specs.Held.{Held}
use Rattle.dual_simplex.specs.Walks.{Moves}
use Rattle.ray_phase.specs.Answers.{IsStart, IsWideAt}
use Rattle.branch_tree.specs.Tree.{node_count, split_count}
use Rattle.sound_searches.specs.Sound.{PlainSearch}
use Rattle.search_counting.specs.Work.{whole_points, cap_of, HasRoomFor}
use Rattle.tree_search.specs.Room.{HasMoves, HasRoomAt, HasRoomForValues}
use Rattle.ray_phase.specs.Beginnings.{HasNoSlackBasis}
use Rattle.tree_search.specs.declared.limits.Limits.{Limits}

-- the run of the ray phase has fewer moves than the limit, and room for each step at each of its states
pub record IsRayPhaseEnough (M : Program) (pivots : ℕ) : Type 0 where
  pub moves : (s : Held) → IsStart M s → (n : ℕ) (after : Held) → Moves n s after → n < pivots
  pub steps : (s : Held) → IsStart M s → (n : ℕ) (after : Held) → Moves n s after → (step : WideStep) → ¬ IsWideAt M n pivots after step

-- the same of the model's relaxations, each with any at most 200 cuts of the pool that count and from any list
pub record AreRelaxationsEnough (M : Program) (pool : List CutRow) (pivots : ℕ) : Type 0 where
  pub moves : HasMoves M pool pivots
  pub steps : HasRoomAt M pool

-- beside a ray the model without costs is worked, and points have their own values
pub record IsEnoughBeside (M : Program) (pool : List CutRow) (pivots : ℕ) : Type 0 where
  pub ray_phase : IsRayPhaseEnough (without_costs M) pivots
  pub relaxations : AreRelaxationsEnough (without_costs M) pool pivots
  pub values : HasRoomForValues (without_costs M) pool M

-- as many results as any search of the model can place, as many nodes, three ids beside the first for each split that it can make, more
-- moves than any run has, and room for each step
pub record IsEnough (M : Program) (pool : List CutRow) (l : Limits) : Type 0 where
  pub results : cap_of M ≤ l.nodes
  pub tree : cap_of M ≤ l.tree
  pub ids : 1 + 3 * (whole_points M - 1) < 2 ^ 64
  pub ray_phase : HasNoSlackBasis M → IsRayPhaseEnough M l.pivots
  pub own : ((d : Point) → ¬ IsRay M d) → AreRelaxationsEnough M pool l.pivots
  pub beside : (d : Point) → IsRay M d → IsEnoughBeside M pool l.pivots

-- the same of a search that goes on: as many results as any search of its model can place, as many nodes beside those that there are,
-- and for each split that it can make three ids beside those that were given and one for each split that there is
pub record IsKeptEnough (S : PlainSearch) (pool : List CutRow) (l : Limits) : Type 0 where
  pub results : cap_of S.model ≤ l.nodes
  pub nodes : node_count S.tree.root + cap_of S.model ≤ l.tree
  pub ids : S.tree.last + split_count S.tree.root + 3 * (whole_points S.model - 1) < 2 ^ 64
  pub ray_phase : HasNoSlackBasis S.model → IsRayPhaseEnough S.model l.pivots
  pub own : ((d : Point) → ¬ IsRay S.model d) → AreRelaxationsEnough S.model pool l.pivots
  pub beside : (d : Point) → IsRay S.model d → IsEnoughBeside S.model pool l.pivots

-- what both come to: the tree has room for the most splits (for the calls that go on with a search)
pub record IsEnoughFrom (S : PlainSearch) (pool : List CutRow) (nodes pivots : ℕ) : Type 0 where
  pub results : cap_of S.model ≤ nodes
  pub room : HasRoomFor (whole_points S.model - 1) S.tree
  pub ray_phase : HasNoSlackBasis S.model → IsRayPhaseEnough S.model pivots
  pub own : ((d : Point) → ¬ IsRay S.model d) → AreRelaxationsEnough S.model pool pivots
  pub beside : (d : Point) → IsRay S.model d → IsEnoughBeside S.model pool pivots
