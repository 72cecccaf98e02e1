-- What a solve does to a search, and what it answers of it.
--     Solved M l answer S               a fresh search of M became S, and this was found
--     SolvesModel M l old answer S      so; or there was no memory for a fresh one, and old stays
--     SolvesFrom l old answer S         so of the search's own model
--     HasRayFrom l old answer d         which ray is told beside it
use Rattle.std.specs.Prelude.{◌≡◌, ◌⊎◌, ℕ, Option, Some, None}
use Rattle.lp_model.specs.Program.{Program, Point}
use Rattle.lp_model.specs.declared.types.Basis.{Basis}
use Rattle.lp_model.specs.declared.answers.StopWhy.{StopWhy}
use Rattle.search_answers.specs.declared.answers.Answer.{Answer}
use Rattle.search_answers.specs.declared.answers.Answer.TheVariants.{Optimal, Within, Infeasible, Unbounded, Stopped, Memory}
use Rattle.ray_phase.specs.Answers.{IsRayAnswer}
use Rattle.ray_phase.specs.declared.phase.RayAnswer.TheVariants as ray
use Rattle.sound_searches.specs.Calls.{IsFresh, search_with_limit}
use Rattle.sound_searches.specs.Laws.{HasNoOpenLeaf}
use Rattle.sound_searches.specs.Sound.{PlainSearch, IsSound}
use Rattle.tree_search.specs.Steps.{HasOpenLeaf}
use Rattle.tree_search.specs.Turns.{Order}
use Rattle.tree_search.specs.Search.{Finds, GivesUp, IsAnswerAtEnd, IsStoppedAnswer}
use Rattle.tree_search.specs.declared.searching.Searched.{Searched}
use Rattle.tree_search.specs.declared.searching.Ways.{Ways}
use Rattle.ray_phase.specs.Beginnings.{StopsBefore}
use Rattle.tree_search.specs.Beginnings.{BeginsWith}
use Rattle.tree_search.specs.declared.limits.Limits.{Limits}

-- whose turn it is by these limits, and the gap within which the turns end
abbrev pub turn_order_of : Limits → Order
turn_order_of l = record { workers = l.workers; seed = l.seed; gap = l.gap }

-- The search that it began with, a fresh one or one that is kept, has no open leaf; it stays since the ray phase stopped; it was searched,
-- and this shows what is answered; or there was no memory, before it was searched or then, and the results that were placed stay.
pub data Course (M : Program) (l : Limits) (fresh : PlainSearch) (answer : Answer) (S : PlainSearch) : Type 0 where
  NothingOpen : HasNoOpenLeaf fresh → S ≡ fresh → answer ≡ Infeasible 0 → Course M l fresh answer S
  StopsFirst : HasOpenLeaf fresh → (why : StopWhy) → StopsBefore M l.pivots why → S ≡ fresh → IsStoppedAnswer S why 0 answer → Course M l fresh answer S
  Searches : HasOpenLeaf fresh → (ways : Ways) (first : Basis) → BeginsWith M l.pivots ways first → (searched : Searched)
      → Finds ways first (turn_order_of l) l.nodes l.pivots fresh S searched → IsAnswerAtEnd S searched.ended searched.results answer → Course M l fresh answer S
  WantsBefore : S ≡ fresh → answer ≡ Memory → Course M l fresh answer S
  WantsWithin : (ways : Ways) (first : Basis) → BeginsWith M l.pivots ways first → GivesUp ways first (turn_order_of l) l.nodes l.pivots fresh S → answer ≡ Memory → Course M l fresh answer S

-- the search began with one leaf and no point
pub record Solved (M : Program) (l : Limits) (answer : Answer) (S : PlainSearch) : Type 0 where
  pub fresh : PlainSearch
  pub begins : IsFresh M l.tree fresh
  pub sound : IsSound fresh
  pub course : Course M l fresh answer S
  pub model : S.model ≡ M

pub record WantsRoot (l : Limits) (old : PlainSearch) (answer : Answer) (S : PlainSearch) : Type 0 where
  pub kept : S ≡ search_with_limit old l.tree
  pub wants : answer ≡ Memory

abbrev pub SolvesModel : Program → Limits → PlainSearch → Answer → PlainSearch → Type 0
SolvesModel M l old answer S = Solved M l answer S ⊎ WantsRoot l old answer S

-- the model is the search's own
abbrev pub SolvesFrom : Limits → PlainSearch → Answer → PlainSearch → Type 0
SolvesFrom l old answer S = SolvesModel old.model l old answer S

-- ---- the ray beside which it was made

abbrev pub SaysUnbounded : Answer → Type 0
SaysUnbounded (Optimal v x n) = ⊥
SaysUnbounded (Within g v x n) = ⊥
SaysUnbounded (Infeasible n) = ⊥
SaysUnbounded (Unbounded n) = Unit {0}
SaysUnbounded (Stopped why n bound best) = ⊥
SaysUnbounded Memory = ⊥

-- a direction that is told is the ray phase's answer, and one is told where the model is unbounded
abbrev pub HasRayFor : Program → ℕ → Answer → Option Point → Type 0
HasRayFor M pivots answer (Some direction) = IsRayAnswer M pivots (ray.Ray direction)
HasRayFor M pivots answer None = ¬ SaysUnbounded answer

abbrev pub HasRayFrom : Limits → PlainSearch → Answer → Option Point → Type 0
HasRayFrom l old answer direction = HasRayFor old.model l.pivots answer direction
