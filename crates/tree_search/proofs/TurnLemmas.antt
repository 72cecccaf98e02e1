-- One turn: whose it is, and what comes of it.
use Rattle.std.specs.Prelude.{◌≡◌, ◌⊎◌, ℕ, ◌+◌, ◌*◌, ◌<◌, ◌≤◌, Bool, true, List, length, get_or, set, Option, Some, None}
use Rattle.std.specs.Option.{option_map}
use Rattle.std.proofs.Common.{sym, subst, ap, ◌∙◌, inl, inr, arith}
use Rattle.std.proofs.lemmas.List.{length-map, length-set, set-set}
use Rattle.rand_pcg.specs.Lcg.{Lcg}
use Rattle.branch_tree.specs.declared.node.Job.{Job}
use Rattle.sound_searches.specs.Free.{IsNextFree}
use Rattle.sound_searches.specs.Sound.{PlainSearch}
use Rattle.tree_manager.specs.Managers.{PlainManager}
use Rattle.turn_order.specs.Turns.{can_act, IsNextTurn}
use Rattle.tree_search.specs.GivingUp.{LeavesOf, LeavesTurn}
use Rattle.tree_search.specs.Turns.{Crew, id_of, kept_job, jobs_on, IsFreeAnswer, Acts}
use Rattle.tree_search.specs.private.Stepping.{IsFreed, Hands, TakesTurn, HandsTurn, WorksTurn, AreJobsOf, Steps}
use Rattle.tree_search.specs.declared.stepping.Working.{Working}
use Rattle.tree_search.specs.declared.stepping.Stepped.{Stepped}
use Rattle.tree_search.specs.declared.stepping.Stepped.TheVariants.{Placed}
use Rattle.search_counting.specs.Work.{work_of}
use Rattle.tree_search.proofs.CrewLemmas.{held-at, free-for_idle, idle_count, idle-most, idle-fewer, fewer-idle, less-work}

-- as many ids as jobs
pub same-length : (P : PlainManager) (jobs : List (Option Job)) → AreJobsOf P jobs → length P.held ≡ length jobs
same-length P jobs of = ap length of.held ∙ length-map jobs (option_map id_of)

module _ (P : PlainManager) (jobs : List (Option Job)) (words left : Lcg) (of : AreJobsOf P jobs) (free : Bool) (free_is : IsFreeAnswer P.search P.held free) (w : ℕ) (turn : IsNextTurn words free P.held w left) (within : w < length P.held) where
  abbrev pub crew : Crew
  crew = record { search = P.search; jobs = jobs; words = words }

  pub below : w < length jobs
  below = let same = same-length P jobs of in omega (arith, same, within)

  acts : Acts crew w left
  acts = record { free = free; free_is = subst (λ l. IsFreeAnswer P.search l free) of.held free_is; turn = subst (λ l. IsNextTurn words free l w left) of.held turn }

  takes-turn : TakesTurn P jobs words left
  takes-turn = record { w = w; within = below; acts = acts }

  -- what the manager keeps of its job
  pub id-at : get_or P.held w None ≡ option_map id_of (get_or jobs w None)
  id-at = ap (λ l. get_or l w None) of.held ∙ held-at jobs w

  pub idle-there : get_or jobs w None ≡ None → get_or P.held w None ≡ None
  idle-there idle = id-at ∙ ap (option_map id_of) idle

  pub free-there : can_act free (get_or P.held w None) ≡ true → get_or jobs w None ≡ None → (id : ℕ) × IsNextFree P.search P.held (Some id)
  free-there able idle = free-for_idle P.search P.held free (get_or P.held w None) (idle-there idle) able free_is

  module _ (Q : PlainManager) (after : List (Option Job)) where
    pub hands-turn : get_or jobs w None ≡ None → Hands w P (set jobs w None) Q after → HandsTurn P jobs words Q after left
    unfolding takes-turn
    hands-turn idle h = record {
      turn = takes-turn;
      idle = idle;
      hands = record { job = h.job; gives = h.gives; jobs_are = h.jobs_are ∙ set-set jobs w None (Some h.job) };
    }

    pub works-turn : (working : Working) (job : Job) → get_or jobs w None ≡ Some job → (s : Stepped) → Steps working job P.search Q.search s → IsFreed w P Q → after ≡ jobs_on Q.search (set jobs w None) → WorksTurn working P jobs words s Q after left
    unfolding takes-turn
    works-turn working job holds s steps freed are = record { turn = takes-turn; job = job; holds = holds; steps = steps; freed = freed; jobs_are = are }

  -- without memory for the work
  pub leaves-turn : (working : Working) (job : Job) → get_or jobs w None ≡ Some job → (T : PlainSearch) → LeavesOf working.ways working.first.now working.pivots job P.search T → (T ≡ P.search) ⊎ LeavesTurn working.ways working.first.now working.pivots crew P.search T
  leaves-turn working job holds T (inl same) = inl same
  leaves-turn working job holds T (inr adds) = inr (job, (record { w = w; left = left; acts = acts; holds = holds }, adds))

-- ---- each turn lowers the measure

module _ (P Q : PlainManager) (jobs after : List (Option Job)) (words left : Lcg) where
  pub hands-smaller : HandsTurn P jobs words Q after left → (length after + 1) * work_of Q.search + idle_count after < (length jobs + 1) * work_of P.search + idle_count jobs
  hands-smaller t =
      let w = t.turn.w in
      let job = t.hands.job in
      let lens : length after ≡ length jobs = ap length t.hands.jobs_are ∙ length-set jobs w (Some job) in
      let fewer = idle-fewer jobs w job t.turn.within t.idle in
      subst (λ X. X) (λ i. (sym lens i + 1) * work_of (sym t.hands.gives.new_is i).search + idle_count (sym t.hands.jobs_are i) < (length jobs + 1) * work_of P.search + idle_count jobs)
      (fewer-idle (length jobs + 1) (work_of P.search) (idle_count jobs) (idle_count (set jobs w (Some job))) fewer)

  pub works-smaller : (working : Working) → WorksTurn working P jobs words Placed Q after left → (length after + 1) * work_of Q.search + idle_count after < (length jobs + 1) * work_of P.search + idle_count jobs
  works-smaller working t =
      let lens : length after ≡ length jobs = ap length t.jobs_are ∙ length-map (set jobs t.turn.w None) (kept_job Q.search) ∙ length-set jobs t.turn.w None in
      let most = idle-most after in
      let few : idle_count after ≤ length jobs = omega (arith, most, lens) in
      subst (λ k. (k + 1) * work_of Q.search + idle_count after < (length jobs + 1) * work_of P.search + idle_count jobs) (sym lens)
      (less-work (length jobs) (work_of P.search) (work_of Q.search) (idle_count jobs) (idle_count after) t.steps.0.work few)
