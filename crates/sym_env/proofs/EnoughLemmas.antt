-- A search with enough of all goes to the end.
use Rattle.std.specs.Prelude.{◌*◌, ◌-◌, max}
use Rattle.std.proofs.Common.{◌≡◌, ◌⊎◌, ℕ, ◌+◌, ◌<◌, ◌≤◌, List, sym, subst, inl, inr, arith}
use Rattle.lp_model.specs.Program.{Program}
use Rattle.lp_model.specs.declared.types.Basis.{Basis}
use Rattle.lp_model.specs.declared.types.CutRow.{CutRow}
use Rattle.lp_model.specs.declared.answers.StopWhy.{StopWhy}
use Rattle.lp_model.specs.declared.answers.StopWhy.TheVariants as stop
use Rattle.search_answers.specs.declared.answers.Answer.{Answer}
use Rattle.search_answers.specs.declared.answers.Answer.TheVariants.{Optimal, Within, Infeasible, Unbounded, Stopped, Memory}
use Rattle.model_points.specs.Rays.{without_costs}
use Rattle.branch_tree.specs.Tree.{node_count}
use Rattle.sound_searches.specs.Calls.{IsFresh, search_with_limit}
use Rattle.sound_searches.specs.Sound.{PlainSearch}
use Rattle.ray_phase.specs.Laws.{NoRayFoundLaw}
use Rattle.search_counting.specs.Laws.{RoomyLaw}
use Rattle.search_counting.specs.Work.{whole_points}
use Rattle.tree_search.specs.Causes.{IsAtEnd}
use Rattle.tree_search.specs.Causes as search
use Rattle.tree_search.specs.Room.{HasMoves, HasRoomAt, HasRoomForValues}
use Rattle.tree_search.specs.Search.{IsAnswerAtEnd}
use Rattle.tree_search.specs.declared.searching.Ended.{Ended}
use Rattle.tree_search.specs.declared.searching.Ended.TheVariants as ended
use Rattle.tree_search.specs.declared.searching.Ways.{Ways}
use Rattle.tree_search.specs.declared.searching.Ways.TheVariants.{Own, Rays}
use Rattle.ray_phase.specs.Beginnings.{IsRayStop, FindsRay, StopsBefore}
use Rattle.tree_search.specs.Beginnings.{BeginsWith}
use Rattle.tree_search.specs.Enough.{IsRayPhaseEnough, AreRelaxationsEnough, IsEnoughBeside, IsEnough, IsKeptEnough, IsEnoughFrom}
use Rattle.tree_search.specs.Truth.{HasEnded}
use Rattle.tree_search.specs.declared.limits.Limits.{Limits}
use Rattle.ray_phase.proofs.BeginningLemmas.{dual_basis, is_ray}

-- ---- the search

pub enough-for : NoRayFoundLaw → (S : PlainSearch) (pool : List CutRow) (nodes pivots : ℕ) (ways : Ways) (first : Basis) → BeginsWith S.model pivots ways first → IsEnoughFrom S pool nodes pivots → search.IsEnoughForSearch S pool ways nodes pivots
enough-for none S pool nodes pivots Own first (inl slack) e =
    let own : AreRelaxationsEnough S.model pool pivots = e.own (λ d. none S.model first d (inr slack)) in
    record { results = e.results; room = e.room; moves = own.moves; steps = own.steps; values = tt }
enough-for none S pool nodes pivots Own first (inr dual) e =
    let own : AreRelaxationsEnough S.model pool pivots = e.own (λ d. none S.model first d (inl (dual_basis S.model pivots first dual.1))) in
    record { results = e.results; room = e.room; moves = own.moves; steps = own.steps; values = tt }
enough-for none S pool nodes pivots (Rays Z) first beside e =
    let b : IsEnoughBeside S.model pool pivots = e.beside beside.has_ray.0 (is_ray S.model pivots beside.has_ray.0 beside.has_ray.1) in
    record {
      results = e.results;
      room = e.room;
      moves = subst (λ N. HasMoves N pool pivots) (sym beside.costless) b.relaxations.moves;
      steps = subst (λ N. HasRoomAt N pool) (sym beside.costless) b.relaxations.steps;
      values = subst (λ N. HasRoomForValues N pool S.model) (sym beside.costless) b.values;
    }

-- what is enough for a solve is enough from its fresh root
pub from-fresh : RoomyLaw → (l : Limits) (S : PlainSearch) (pool : List CutRow) → IsFresh S.model l.tree S → IsEnough S.model pool l → IsEnoughFrom S pool l.nodes l.pivots
from-fresh law l S pool begins e = record { results = e.results; room = law S.model l.tree S begins e.tree e.ids; ray_phase = e.ray_phase; own = e.own; beside = e.beside }

-- and what is enough to go on, from the kept tree with the limit on its nodes
pub from-kept : (l : Limits) (S : PlainSearch) (pool : List CutRow) → IsKeptEnough S pool l → IsEnoughFrom (search_with_limit S l.tree) pool l.nodes l.pivots
from-kept l S pool e = record {
  results = e.results;
  room = record {
    nodes = nodes_fit (node_count S.tree.root) (whole_points S.model) e.nodes;
    ids = e.ids;
  };
  ray_phase = e.ray_phase;
  own = e.own;
  beside = e.beside;
}
  where
    nodes_fit : (c p : ℕ) → c + max 1 (2 * p - 1) ≤ l.tree → c + 2 * (p - 1) ≤ l.tree
    nodes_fit c p h = omega (arith, h)

pub at-end : (S : PlainSearch) (e : Ended) (n : ℕ) (answer : Answer) → IsAtEnd e → IsAnswerAtEnd S e n answer → HasEnded answer
at-end S ended.Finished n (Optimal v x m) h told = tt
at-end S ended.Finished n (Within g v x m) h told = tt
at-end S ended.Finished n (Infeasible m) h told = tt
at-end S ended.Finished n (Unbounded m) h told = tt
at-end S ended.Finished n (Stopped why m bound best) h told = told
at-end S ended.Finished n Memory h told = tt
at-end S (ended.Within g) n (Optimal v x m) h told = tt
at-end S (ended.Within g) n (Within w v x m) h told = tt
at-end S (ended.Within g) n (Infeasible m) h told = tt
at-end S (ended.Within g) n (Unbounded m) h told = tt
at-end S (ended.Within g) n (Stopped why m bound best) h told = told
at-end S (ended.Within g) n Memory h told = tt
at-end S ended.Unbounded n (Optimal v x m) h told = tt
at-end S ended.Unbounded n (Within g v x m) h told = tt
at-end S ended.Unbounded n (Infeasible m) h told = tt
at-end S ended.Unbounded n (Unbounded m) h told = tt
at-end S ended.Unbounded n (Stopped why m bound best) h told = told
at-end S ended.Unbounded n Memory h told = tt
at-end S (ended.Stopped why) n answer h told = absurd h

-- ---- the ray phase

ray-goes_on : (M : Program) (pivots : ℕ) (why : StopWhy) → IsRayPhaseEnough M pivots → IsRayStop M pivots why → ⊥
ray-goes_on M pivots stop.Nodes e h = h
ray-goes_on M pivots stop.Tree e h = h
ray-goes_on M pivots (stop.Pivots place) e h =
    let run = h.1.1 in
    let few : run.1.1.1.0 < pivots = e.moves run.0 run.1.1.0 run.1.1.1.0 run.1.0 run.1.1.1.1.1.0 in
    let all : run.1.1.1.0 ≡ pivots = run.1.1.1.1.1.1.0 in
    absurd (omega arith)
ray-goes_on M pivots (stop.Wide at_) e h = e.steps h.0 h.1.1.0 h.1.1.1.0 h.1.0 h.1.1.1.1.1.0 at_.step h.1.1.1.1.1.1.1.0

pub goes-on : (S : PlainSearch) (pool : List CutRow) (nodes pivots : ℕ) (why : StopWhy) → IsEnoughFrom S pool nodes pivots → StopsBefore S.model pivots why → ⊥
goes-on S pool nodes pivots why e s = by s.stop
  where
    by : IsRayStop S.model pivots why ⊎ (FindsRay S.model pivots × IsRayStop (without_costs S.model) pivots why) → ⊥
    by (inl h) = ray-goes_on S.model pivots why (e.ray_phase s.none) h
    by (inr h) = ray-goes_on (without_costs S.model) pivots why (e.beside h.0.0 (is_ray S.model pivots h.0.0 h.0.1)).ray_phase h.1
