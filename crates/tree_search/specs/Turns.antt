-- How workers share a search: one turn follows the other.
--     Crew                                    the search, for each worker the job that it holds or none, and the words left
--     Acts crew w left                        it is the turn of the worker w, and these words are left
--     HandsOut a b                            the manager gives a job to a worker that holds nothing: of the leaf that goes first of those that nobody holds
--     PlacesInTurn ways first pivots a b      a worker works the job that it holds, and the result closes its leaf or splits it; the search after it is
--                                             sound, as each is
--     Drives ways first pivots turns a b      these turns, the last one first
--     NoneDone ways gap turns                 none of the turns was taken from a search that is done within the gap
--     Goes ways first pivots order n S S'     turns with n placed results
-- A leaf that is not open any more is held by nobody.
use Rattle.std.specs.Prelude.{◌≡◌, ℕ, ◌+◌, ◌≤◌, Bool, true, false, List, [], ◌∷◌, get_or, map, set, replicate, Option, Some, None}
use Rattle.std.specs.Option.{option_map}
use Rattle.frac128.specs.Rational.{ℚ}
use Rattle.rand_pcg.specs.Lcg.{Lcg}
use Rattle.lp_model.specs.declared.types.Basis.{Basis}
use Rattle.branch_tree.specs.Numbered.{IsNumbered}
use Rattle.branch_tree.specs.declared.node.Job.{Job}
use Rattle.sound_searches.specs.Free.{IsNextFree}
use Rattle.sound_searches.specs.Sound.{PlainSearch, IsSound}
use Rattle.tree_manager.specs.Managers.{PlainManager, kept_holding}
use Rattle.tree_manager.specs.Events.{GivesJob}
use Rattle.search_counting.specs.Work.{work_of, IsRoomy}
use Rattle.turn_order.specs.Words.{first_words}
use Rattle.turn_order.specs.Turns.{IsNextTurn}
use Rattle.tree_search.specs.Extends.{Extends}
use Rattle.tree_search.specs.Steps.{Places}
use Rattle.tree_search.specs.Within.{IsGapReached}
use Rattle.tree_search.specs.declared.searching.Ways.{Ways}

-- how many workers there are, the seed whose words say whose turn it is, and the gap within which no turn is taken any more
pub record Order : Type 0 where
  pub workers : ℕ
  pub seed : ℕ
  pub gap : Option ℚ

pub record Crew : Type 0 where
  pub search : PlainSearch
  pub jobs : List (Option Job)
  pub words : Lcg

-- ---- who holds what

abbrev pub id_of : Job → ℕ
id_of job = job.id

abbrev pub held_of : List (Option Job) → List (Option ℕ)
held_of jobs = map (option_map id_of) jobs

abbrev pub manager_of : Crew → PlainManager
manager_of crew = record { search = crew.search; held = held_of crew.jobs }

abbrev pub first_crew : PlainSearch → Order → Crew
first_crew S order = record { search = S; jobs = replicate order.workers None; words = first_words order.seed }

-- what is left of the jobs in a search, as the manager holds on to their leaves
abbrev pub kept_job : PlainSearch → Option Job → Option Job
kept_job S None = None
kept_job S (Some job) = option_map (λ (id : ℕ). job) (kept_holding S (Some job.id))

abbrev pub jobs_on : PlainSearch → List (Option Job) → List (Option Job)
jobs_on S jobs = map (kept_job S) jobs

-- ---- turns

-- whether an open leaf is held by nobody
abbrev pub IsFreeAnswer : PlainSearch → List (Option ℕ) → Bool → Type 0
IsFreeAnswer S held true = (id : ℕ) × IsNextFree S held (Some id)
IsFreeAnswer S held false = IsNextFree S held None

pub record Acts (crew : Crew) (w : ℕ) (left : Lcg) : Type 0 where
  pub free : Bool
  pub free_is : IsFreeAnswer crew.search (held_of crew.jobs) free
  pub turn : IsNextTurn crew.words free (held_of crew.jobs) w left

-- it is the turn of a worker that holds the job
pub record ActsOn (crew : Crew) (job : Job) : Type 0 where
  pub w : ℕ
  pub left : Lcg
  pub acts : Acts crew w left
  pub holds : get_or crew.jobs w None ≡ Some job

pub record HandsOut (a b : Crew) : Type 0 where
  pub w : ℕ
  pub acts : Acts a w b.words
  pub job : Job
  pub gives : GivesJob (manager_of a) w job (manager_of b)
  pub jobs_are : b.jobs ≡ set a.jobs w (Some job)

pub record PlacesInTurn (ways : Ways) (first : Basis) (pivots : ℕ) (a b : Crew) : Type 0 where
  pub w : ℕ
  pub acts : Acts a w b.words
  pub places : Places ways first pivots a.search b.search
  pub holds : get_or a.jobs w None ≡ Some places.job
  pub jobs_are : b.jobs ≡ jobs_on b.search (set a.jobs w None)
  pub sound : IsSound b.search
  pub numbered : IsNumbered b.search.tree

-- ---- one turn after the other

pub data Turn : Type 0 where
  HandOut : Turn
  PlaceResult : Turn

abbrev pub IsTurnOf : Ways → Basis → ℕ → Turn → Crew → Crew → Type 0
IsTurnOf ways first pivots HandOut a b = HandsOut a b
IsTurnOf ways first pivots PlaceResult a b = PlacesInTurn ways first pivots a b

abbrev pub Drives : Ways → Basis → ℕ → List Turn → Crew → Crew → Type 0
Drives ways first pivots [] a b = b ≡ a
Drives ways first pivots (t ∷ turns) a b = (mid : Crew) × (Drives ways first pivots turns a mid × IsTurnOf ways first pivots t mid b)

-- no turn was taken from a search that is done
abbrev pub NoneDone : (ways : Ways) (first : Basis) (pivots : ℕ) (gap : Option ℚ) (turns : List Turn) (a b : Crew) → Drives ways first pivots turns a b → Type 0
NoneDone ways first pivots gap [] a b same = Unit {0}
NoneDone ways first pivots gap (t ∷ turns) a b (mid, (before, turn)) = NoneDone ways first pivots gap turns a mid before × (¬ IsGapReached ways gap mid.search)

abbrev pub placings_in : Turn → ℕ
placings_in HandOut = 0
placings_in PlaceResult = 1

-- how many results are placed
abbrev pub placings : List Turn → ℕ
placings [] = 0
placings (t ∷ turns) = placings turns + placings_in t

-- turns with so many placed results, each with less left to place, in the same model; open leaves became trees
pub record Goes (ways : Ways) (first : Basis) (pivots : ℕ) (order : Order) (n : ℕ) (old new : PlainSearch) : Type 0 where
  pub crew : Crew
  pub search_is : crew.search ≡ new
  pub turns : List Turn
  pub drives : Drives ways first pivots turns (first_crew old order) crew
  pub going : NoneDone ways first pivots order.gap turns (first_crew old order) crew drives
  pub results : placings turns ≡ n
  pub model : new.model ≡ old.model
  pub extends : Extends old.tree.root new.tree.root
  pub work : n + work_of new ≤ work_of old
  pub room : IsRoomy old → IsRoomy new
  pub sound : IsSound new
