-- What is done to a search that goes on, and what is answered of it.
--     Went l S answer T         from S, which has an open leaf, the search became T, and this was found
--     Warms l S answer T        the same of any search, with what is known before a leaf is worked
--     WarmsFrom l S answer T    so with a limit on its nodes, and what stays
-- A search goes on from the tree, the points and the lists that are kept: every node but open leaves stays.
use Rattle.std.specs.Prelude.{◌≡◌, ◌⊎◌, ℕ, ◌<◌, length, Some}
use Rattle.frac128.specs.Rational.{ℚ}
use Rattle.lp_model.specs.Program.{Program, Point}
use Rattle.lp_model.specs.declared.types.Basis.{Basis}
use Rattle.lp_model.specs.declared.answers.StopWhy.{StopWhy}
use Rattle.search_answers.specs.declared.answers.Answer.{Answer}
use Rattle.search_answers.specs.declared.answers.Answer.TheVariants.{Optimal, Within, Infeasible, Unbounded, Stopped, Memory}
use Rattle.ray_phase.specs.Answers.{IsRayAnswer}
use Rattle.ray_phase.specs.declared.phase.RayAnswer.TheVariants as ray
use Rattle.sound_searches.specs.Calls.{search_with_limit}
use Rattle.sound_searches.specs.Laws.{HasNoOpenLeaf}
use Rattle.sound_searches.specs.Sound.{PlainSearch, IsSound}
use Rattle.search_gaps.specs.Within.{AreLeavesWithin}
use Rattle.tree_search.specs.Extends.{Extends}
use Rattle.tree_search.specs.Search.{IsFinishedAnswer}
use Rattle.tree_search.specs.Steps.{HasOpenLeaf}
use Rattle.tree_search.specs.declared.searching.Ways.TheVariants.{Own}
use Rattle.ray_phase.specs.Beginnings.{HasNoSlackBasis, FindsRay, IsRayStop}
use Rattle.tree_search.specs.Beginnings.{BeginsWith}
use Rattle.tree_search.specs.Solves.{Course}
use Rattle.tree_search.specs.declared.limits.Limits.{Limits}

-- the course of a search from this one on, and the nodes that stay
pub record Went (l : Limits) (begun : PlainSearch) (answer : Answer) (S : PlainSearch) : Type 0 where
  pub sound : IsSound begun
  pub course : Course begun.model l begun answer S
  pub model : S.model ≡ begun.model
  pub extends : Extends begun.tree.root S.tree.root

-- no ray is told: each relaxation can begin at a list, the ray phase stopped, or there was no memory
abbrev pub IsRayUntold : Program → ℕ → Answer → Type 0
IsRayUntold M pivots answer =
    ((first : Basis) × BeginsWith M pivots Own first) ⊎ ((HasNoSlackBasis M × ((why : StopWhy) × IsRayStop M pivots why)) ⊎ (answer ≡ Memory))

-- From a search with an open leaf: where the ray phase answers a ray beside a kept point, the objective has no end, and nothing is placed;
-- else leaves are worked.
pub data Resumes (l : Limits) (begun : PlainSearch) (answer : Answer) (S : PlainSearch) : Type 0 where
  BesidePoint : 0 < length begun.points → (d : Point) → HasNoSlackBasis begun.model → IsRayAnswer begun.model l.pivots (ray.Ray d) → S ≡ begun → answer ≡ Unbounded 0
      → Resumes l begun answer S
  GoesOn : (0 < length begun.points → IsRayUntold begun.model l.pivots answer) → Went l begun answer S → Resumes l begun answer S

-- where no leaf is open nothing is done: what the search has shown is answered again
pub data Warms (l : Limits) (begun : PlainSearch) (answer : Answer) (S : PlainSearch) : Type 0 where
  Still : HasNoOpenLeaf begun → S ≡ begun → IsFinishedAnswer begun 0 answer → Warms l begun answer S
  SomeOpen : HasOpenLeaf begun → Resumes l begun answer S → Warms l begun answer S

-- ---- what stays

-- no result was placed
abbrev pub PlacesNone : Answer → Type 0
PlacesNone (Optimal v x n) = n ≡ 0
PlacesNone (Within g v x n) = n ≡ 0
PlacesNone (Infeasible n) = n ≡ 0
PlacesNone (Unbounded n) = n ≡ 0
PlacesNone (Stopped why n bound best) = ⊥
PlacesNone Memory = Unit {0}

-- none, of a stop too
abbrev pub PlacesNoResult : Answer → Type 0
PlacesNoResult (Optimal v x n) = n ≡ 0
PlacesNoResult (Within g v x n) = n ≡ 0
PlacesNoResult (Infeasible n) = n ≡ 0
PlacesNoResult (Unbounded n) = n ≡ 0
PlacesNoResult (Stopped why n bound best) = n ≡ 0
PlacesNoResult Memory = Unit {0}

-- what is found of a search that goes on, and what stays of it
pub record WarmsFrom (l : Limits) (old : PlainSearch) (answer : Answer) (S : PlainSearch) : Type 0 where
  pub warms : Warms l (search_with_limit old l.tree) answer S
  pub model : S.model ≡ old.model
  -- open leaves became trees, every other node stays
  pub extends : Extends old.tree.root S.tree.root
  -- after a search that closed every leaf nothing is placed
  pub again : HasNoOpenLeaf old → PlacesNone answer × (S ≡ search_with_limit old l.tree)
  -- a search that is within the gap already places nothing, where there is memory: its ray phase may stop, else it is answered so again
  pub within : (g : ℚ) → l.gap ≡ Some g → HasOpenLeaf old → AreLeavesWithin old g → (answer ≡ Memory) ⊎ (PlacesNoResult answer × (S ≡ search_with_limit old l.tree))
  -- beside a kept point a ray shows that the objective has no end, and nothing is placed
  pub beside : 0 < length old.points → FindsRay old.model l.pivots → (answer ≡ Unbounded 0) ⊎ (answer ≡ Memory)
