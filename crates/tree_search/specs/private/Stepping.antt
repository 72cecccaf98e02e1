-- The steps of a search one by one, for the calls that make them.
use Rattle.std.specs.Prelude.{◌≡◌, ℕ, ◌<◌, ◌≤◌, List, length, get_or, set, Option, Some, None}
use Rattle.std.proofs.Common.{inl, inr}
use Rattle.lp_model.specs.declared.types.Basis.{Basis}
use Rattle.lp_model.specs.declared.answers.StopWhy.{StopWhy}
use Rattle.lp_model.specs.declared.answers.StopWhy.TheVariants as why
use Rattle.sound_searches.specs.Sound.{PlainSearch}
use Rattle.search_counting.specs.Work.{Lowers}
use Rattle.sound_searches.specs.Free.{IsHeldJob}
use Rattle.tree_manager.specs.Managers.{PlainManager, held_on}
use Rattle.tree_manager.specs.Events.{GivesJob}
use Rattle.branch_tree.specs.declared.node.Job.{Job}
use Rattle.node_solve.specs.declared.working.Worked.{Worked}
use Rattle.node_solve.specs.declared.working.Worked.TheVariants as answer
use Rattle.tree_search.specs.Steps.{FoundCuts, IsWayFor, IsFirstFor, WorksNext, Places, PointAtNext, StopsAtNext}
use Rattle.tree_search.specs.Search.{Ends, IsLeft}
use Rattle.tree_search.specs.Extends.{Extends}
use Rattle.rand_pcg.specs.Lcg.{Lcg}
use Rattle.tree_search.specs.Turns.{Order, Acts, held_of, jobs_on}
use Rattle.tree_search.specs.declared.turning.Turned.{Turned}
use Rattle.tree_search.specs.declared.turning.Turned.TheVariants.{HandedOut, HasWorked}
use Rattle.tree_search.specs.declared.searching.Ways.{Ways}
use Rattle.tree_search.specs.declared.searching.Searched.{Searched}
use Rattle.tree_search.specs.declared.stepping.Working.{Working}
use Rattle.tree_search.specs.declared.stepping.WorkEnd.{WorkEnd}
use Rattle.tree_search.specs.declared.stepping.WorkEnd.TheVariants as end
use Rattle.tree_search.specs.declared.stepping.Stepped.{Stepped}
use Rattle.tree_search.specs.declared.stepping.Stepped.TheVariants.{Placed, Found, Stopped}

-- leaves of the search can be worked so
pub record IsReady (working : Working) (S : PlainSearch) : Type 0 where
  pub ways : IsWayFor S working.ways
  pub first : IsFirstFor working.ways S working.first.now

abbrev pub WorksBy : Working → PlainSearch → Job → Worked → Type 0
WorksBy working S job worked = WorksNext working.ways working.first.now working.pivots S job worked

-- what the work answers that comes to this and found these cuts
abbrev pub worked_with : WorkEnd → FoundCuts → Worked
worked_with (end.Done done) found = answer.Done done found
worked_with (end.Pivots basis) found = answer.Pivots basis found
worked_with (end.Wide at) found = answer.Wide at found

-- what a step comes to: the job that it names is that one
abbrev pub IsStopOf : (ways : Ways) (first : Basis) (pivots : ℕ) (old new : PlainSearch) (w : StopWhy) → StopsAtNext ways first pivots old new w → Job → Type 0
IsStopOf ways first pivots old new why.Nodes h job = ⊥
IsStopOf ways first pivots old new why.Tree h job = h.job ≡ job
IsStopOf ways first pivots old new (why.Pivots place) h job = h.job ≡ job
IsStopOf ways first pivots old new (why.Wide at) (inl h) job = h.job ≡ job
IsStopOf ways first pivots old new (why.Wide at) (inr h) job = h.job ≡ job

abbrev pub Steps : Working → Job → PlainSearch → PlainSearch → Stepped → Type 0
Steps working job old new Placed = Lowers old new × ((p : Places working.ways working.first.now working.pivots old new) × (p.job ≡ job))
Steps working job old new Found = (p : PointAtNext working.ways working.first.now working.pivots old new) × (p.job ≡ job)
Steps working job old new (Stopped w) = (h : StopsAtNext working.ways working.first.now working.pivots old new w) × IsStopOf working.ways working.first.now working.pivots old new w h job

-- ---- who holds what

-- the worker holds nothing, and the others hold on to what is open
abbrev pub IsFreed : ℕ → PlainManager → PlainManager → Type 0
IsFreed w P Q = Q.held ≡ held_on Q.search (set P.held w None)

-- the manager gives the worker a job, which is kept
pub record Hands (w : ℕ) (P : PlainManager) (jobs : List (Option Job)) (Q : PlainManager) (after : List (Option Job)) : Type 0 where
  pub job : Job
  pub gives : GivesJob P w job Q
  pub jobs_are : after ≡ set jobs w (Some job)

-- ---- turns

-- it is the turn of a worker that is there
pub record TakesTurn (P : PlainManager) (jobs : List (Option Job)) (words left : Lcg) : Type 0 where
  pub w : ℕ
  pub within : w < length jobs
  pub acts : Acts (record { search = P.search; jobs = jobs; words = words }) w left

-- it holds nothing and gets a job
pub record HandsTurn (P : PlainManager) (jobs : List (Option Job)) (words : Lcg) (Q : PlainManager) (after : List (Option Job)) (left : Lcg) : Type 0 where
  pub turn : TakesTurn P jobs words left
  pub idle : get_or jobs turn.w None ≡ None
  pub hands : Hands turn.w P jobs Q after

-- it works its job, which comes to this
pub record WorksTurn (working : Working) (P : PlainManager) (jobs : List (Option Job)) (words : Lcg) (s : Stepped) (Q : PlainManager) (after : List (Option Job)) (left : Lcg) : Type 0 where
  pub turn : TakesTurn P jobs words left
  pub job : Job
  pub holds : get_or jobs turn.w None ≡ Some job
  pub steps : Steps working job P.search Q.search s
  pub freed : IsFreed turn.w P Q
  pub jobs_are : after ≡ jobs_on Q.search (set jobs turn.w None)

abbrev pub IsTurned : Working → PlainManager → List (Option Job) → Lcg → Turned → PlainManager → List (Option Job) → Lcg → Type 0
IsTurned working P jobs words HandedOut Q after left = HandsTurn P jobs words Q after left
IsTurned working P jobs words (HasWorked s) Q after left = WorksTurn working P jobs words s Q after left

-- what the jobs are of which one turn begins: those whose leaves the manager's workers hold, each held as it was handed out
pub record AreJobsOf (P : PlainManager) (jobs : List (Option Job)) : Type 0 where
  pub held : P.held ≡ held_of jobs
  pub each : (w : ℕ) (job : Job) → get_or jobs w None ≡ Some job → IsHeldJob P.search job

-- what a search comes to, within its limit
pub record Comes (working : Working) (order : Order) (nodes : ℕ) (old new : PlainSearch) (searched : Searched) : Type 0 where
  pub within_limit : searched.results ≤ nodes
  pub ends : Ends working.ways working.first.now order nodes working.pivots searched.results old new searched.ended
  pub left : IsLeft new searched.ended
  pub extends : Extends old.tree.root new.tree.root
