-- What a search is as a list of its manager's events. A hand-out is one event. A placed result is one event for each cut that the work found,
-- and then the result is taken.
--     drive_events ways first pivots turns a b d     the events of these turns
--     results_in es                                  how many of the events place a result
--     HasHistory order n old new                     a list of events of workers that hold nothing at first, n of which place a result
--     DriveLaw                                       turns are those events, and each search has such a list, however it ends, with memory or without
use Rattle.std.specs.Prelude.{◌≡◌, ℕ, ◌+◌, if◌then◌else◌, All, List, [], ◌∷◌, ◌++◌, map, Some, None}
use Rattle.lp_model.specs.declared.types.Basis.{Basis}
use Rattle.lp_model.specs.declared.types.Derivation.{Derivation}
use Rattle.branch_tree.specs.Numbered.{IsNumbered}
use Rattle.branch_tree.specs.declared.node.NodeResult.{NodeResult}
use Rattle.sound_searches.specs.declared.taken.Taken.{Taken}
use Rattle.sound_searches.specs.declared.taken.Taken.TheVariants.{Stale, Refused, Reopened, Full, Closed, Split, Kept}
use Rattle.sound_searches.specs.Sound.{PlainSearch, IsSound}
use Rattle.tree_manager.specs.Managers.{PlainManager, idle_manager}
use Rattle.tree_manager.specs.Holdings.{brings_point}
use Rattle.tree_manager.specs.Events.{Event, Give, Take, Lose, EditBy, Trim, AddCut, IsHistory}
use Rattle.tree_search.specs.Turns.{Order, Crew, manager_of, Turn, HandOut, PlaceResult, IsTurnOf, Drives, placings}
use Rattle.tree_search.specs.Search.{Ends, GivesUp}
use Rattle.tree_search.specs.declared.searching.Ways.{Ways}
use Rattle.tree_search.specs.declared.searching.Ended.{Ended}

-- ---- the events of turns

-- the cuts one by one, and then the result
abbrev pub result_events : List Derivation → ℕ → ℕ → NodeResult → Taken → List Event
result_events found w id done taken = map AddCut found ++ Take w id done taken ∷ []

abbrev pub turn_events : (ways : Ways) (first : Basis) (pivots : ℕ) (t : Turn) (a b : Crew) → IsTurnOf ways first pivots t a b → List Event
turn_events ways first pivots HandOut a b h = Give h.w (Some h.job) ∷ []
turn_events ways first pivots PlaceResult a b h = result_events h.places.found.items h.w h.places.job.id h.places.result h.places.taken

abbrev pub drive_events : (ways : Ways) (first : Basis) (pivots : ℕ) (turns : List Turn) (a b : Crew) → Drives ways first pivots turns a b → List Event
drive_events ways first pivots [] a b same = []
drive_events ways first pivots (t ∷ turns) a b (mid, (before, turn)) = drive_events ways first pivots turns a mid before ++ turn_events ways first pivots t mid b turn

-- ---- results that are placed

-- the result closes its leaf or splits it, or a point is kept
abbrev pub results_of : NodeResult → Taken → ℕ
results_of done Stale = 0
results_of done Refused = 0
results_of done Reopened = 0
results_of done Full = 0
results_of done Closed = 1
results_of done Split = 1
results_of done Kept = if brings_point done then 1 else 0

abbrev pub results_by : Event → ℕ
results_by (Give w answer) = 0
results_by (Take w id done taken) = results_of done taken
results_by (Lose w) = 0
results_by (EditBy e) = 0
results_by (Trim depth) = 0
results_by (AddCut d) = 0

abbrev pub results_in : List Event → ℕ
results_in [] = 0
results_in (e ∷ es) = results_by e + results_in es

-- ---- histories

-- a leaf is handed out, a cut is added, or a result is taken; the model and the tree are left alone, and no worker is lost
abbrev pub IsWorkEvent : Event → Type 0
IsWorkEvent (Give w None) = ⊥
IsWorkEvent (Give w (Some job)) = Unit {0}
IsWorkEvent (Take w id done taken) = Unit {0}
IsWorkEvent (Lose w) = ⊥
IsWorkEvent (EditBy e) = ⊥
IsWorkEvent (Trim depth) = ⊥
IsWorkEvent (AddCut d) = Unit {0}

pub record HasHistory (order : Order) (n : ℕ) (old new : PlainSearch) : Type 0 where
  pub events : List Event
  pub last : PlainManager
  pub search_is : last.search ≡ new
  pub history : IsHistory (idle_manager old order.workers) events last
  pub work : All IsWorkEvent events
  pub results : results_in events ≡ n

pub record DriveLaw : Type 0 where
  -- turns are these events, and as many results are placed
  pub turns : (ways : Ways) (first : Basis) (pivots : ℕ) (turns : List Turn) (a b : Crew) → IsSound a.search → IsNumbered a.search.tree → (drives : Drives ways first pivots turns a b)
      → IsHistory (manager_of a) (drive_events ways first pivots turns a b drives) (manager_of b)
  pub results : (ways : Ways) (first : Basis) (pivots : ℕ) (turns : List Turn) (a b : Crew) (drives : Drives ways first pivots turns a b) → results_in (drive_events ways first pivots turns a b drives) ≡ placings turns
  -- and so is a search, however it ends
  pub ends : (ways : Ways) (first : Basis) (order : Order) (nodes pivots n : ℕ) (old new : PlainSearch) (ended : Ended) → IsSound old → IsNumbered old.tree → IsSound new → IsNumbered new.tree
      → Ends ways first order nodes pivots n old new ended → HasHistory order n old new
  -- also where there is no memory
  pub gives : (ways : Ways) (first : Basis) (order : Order) (nodes pivots : ℕ) (old new : PlainSearch) → IsSound old → IsNumbered old.tree → (up : GivesUp ways first order nodes pivots old new) → HasHistory order up.results old new
