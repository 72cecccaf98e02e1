-- A search turn by turn: what was placed so far and who holds what, and where it ends or stops.
use Rattle.std.specs.Prelude.{◌≡◌, ◌≢◌, ◌⊎◌, ℕ, zero, suc, ◌+◌, ◌<◌, ◌≤◌, Bool, true, false, if◌then◌else◌, All, List, [], ◌∷◌, length, get_or, set, replicate, Option, Some, None}
use Rattle.std.specs.Option.{option_map}
use Rattle.std.proofs.Common.{refl, sym, subst, ap, ◌∙◌, inl, inr, arith}
use Rattle.std.proofs.lemmas.Bool.{cases_eq, cases_lt}
use Rattle.std.proofs.lemmas.List.{get_or-set_same, get_or-set_other, get_or_past, get_or-replicate, length-replicate}
use Rattle.frac128.specs.Rational.{ℚ}
use Rattle.rand_pcg.specs.Lcg.{Lcg}
use Rattle.lp_model.specs.declared.types.Derivation.{Derivation}
use Rattle.lp_model.specs.declared.answers.StopWhy.{StopWhy}
use Rattle.lp_model.specs.declared.answers.StopWhy.TheVariants as why
use Rattle.model_points.specs.Rays.{IsUnbounded}
use Rattle.branch_tree.specs.Numbered.{IsNumbered}
use Rattle.branch_tree.specs.declared.node.Job.{Job}
use Rattle.sound_searches.specs.Laws.{HasNoOpenLeaf}
use Rattle.sound_searches.specs.Pool.{AddsCuts}
use Rattle.sound_searches.specs.Free.{IsHeldJob}
use Rattle.sound_searches.specs.Sound.{PlainSearch, IsSound}
use Rattle.search_counting.specs.Work.{work_of, IsRoomy}
use Rattle.tree_manager.specs.Managers.{PlainManager, HoldsLeaf, has_open, IsManager, held_on}
use Rattle.tree_manager.specs.Events.{GivesJob}
use Rattle.turn_order.specs.Words.{first_words}
use Rattle.tree_search.specs.Steps.{HasOpenLeaf, Places, StopsAtNext}
use Rattle.tree_search.specs.Turns.{Order, Crew, ActsOn, Turn, HandOut, PlaceResult, Drives, NoneDone, placings, Goes, id_of, held_of, manager_of, kept_job, jobs_on, first_crew}
use Rattle.tree_search.specs.Search.{StopsFor, GivesUp}
use Rattle.tree_search.specs.private.Stepping.{IsReady, IsStopOf, HandsTurn, WorksTurn, AreJobsOf, Comes}
use Rattle.tree_search.specs.declared.searching.Ways.{Ways}
use Rattle.tree_search.specs.declared.searching.Ways.TheVariants.{Own, Rays}
use Rattle.lp_model.specs.declared.types.Basis.{Basis}
use Rattle.search_parts.specs.Points.{IsKeepable}
use Rattle.sound_searches.specs.Free.{IsNextFree}
use Rattle.sound_searches.proofs.OtherLemmas.{placing-other}
use Rattle.tree_search.specs.Extends.{Extends}
use Rattle.tree_search.specs.GivingUp.{LeavesTurn}
use Rattle.tree_search.specs.Within.{IsGapReached}
use Rattle.search_gaps.specs.Within.{AreLeavesWithin}
use Rattle.tree_search.specs.declared.searching.Ended.TheVariants.{Finished, Within, Unbounded, Stopped}
use Rattle.tree_search.specs.declared.stepping.Working.{Working}
use Rattle.tree_search.specs.declared.stepping.Stepped.TheVariants as stepped
use Rattle.node_solve.proofs.AddedLemmas.{more-cuts}
use Rattle.tree_search.proofs.PointLemmas.{point-unbounded}
use Rattle.tree_search.proofs.ReadyLemmas.{ready-after}
use Rattle.tree_search.proofs.ExtendLemmas.{extends-self, extends-on, extends-placed, extends-kept, extends-stopped}
use Rattle.tree_search.proofs.KeepLemmas.{job-after}
use Rattle.tree_search.proofs.HeldJobs.{held-first}
use Rattle.tree_search.proofs.HeldThrough.{held-on, fallen-taken}
use Rattle.tree_search.proofs.CrewLemmas.{held-kept, held-set, held-none, held-at}

-- further cuts leave the open leaves
open-added : (S : PlainSearch) (ds : List Derivation) (T : PlainSearch) → AddsCuts S ds T → HasOpenLeaf S → HasOpenLeaf T
open-added S ds T adds (id, (path, h)) = subst HasOpenLeaf (sym (more-cuts ds S T adds).now) (id, (path, record { kept = h.kept; leaf = h.leaf; state = h.state }))

-- a gap in which the search is done was given
pub done-gap : (ways : Ways) (gap : Option ℚ) (S : PlainSearch) → IsGapReached ways gap S → (g : ℚ) × (gap ≡ Some g)
done-gap Own None S done = absurd done
done-gap Own (Some g) S done = (g, refl)
done-gap (Rays model) gap S done = absurd done

-- where it is done a leaf is open, and all leaves are within the gap
done-left : (ways : Ways) (g : ℚ) (S : PlainSearch) → IsGapReached ways (Some g) S → HasOpenLeaf S × AreLeavesWithin S g
done-left Own g S done = done
done-left (Rays model) g S done = absurd done

with-cause : {A B C : Type 0} → C → A ⊎ B → A ⊎ (C × B)
with-cause c (inl a) = inl a
with-cause c (inr b) = inr (c, b)

-- ---- jobs that are held

-- each job that a worker holds is held as it was handed out
abbrev pub AllHeld : PlainSearch → List (Option Job) → Type 0
AllHeld S jobs = (w : ℕ) (job : Job) → get_or jobs w None ≡ Some job → IsHeldJob S job

abbrev no_one : Option Job
no_one = None

no-job : (job : Job) → ¬ (None ≡ Some job)
no-job job e = cc

some-job : (a b : Job) → Some a ≡ Some b → a ≡ b
some-job a b e = cc

none-all : (S : PlainSearch) (n : ℕ) → AllHeld S (replicate n None)
none-all S n w job h = elim (cases_lt w n) [
  | inl below ↦ absurd (no-job job (sym (get_or-replicate n w None None below) ∙ h))
  | inr past ↦ absurd (no-job job (sym (get_or_past (replicate n None) w None (let same : length (replicate n no_one) ≡ n = length-replicate n None in omega (arith, same, past))) ∙ h))
]

-- without one
without-all : (jobs : List (Option Job)) (w : ℕ) → w < length jobs → (v : ℕ) (job : Job) → get_or (set jobs w None) v None ≡ Some job → (v ≢ w) × (get_or jobs v None ≡ Some job)
without-all jobs w below v job h = elim (cases_eq v w) [
  | inl same ↦ absurd (no-job job (sym (get_or-set_same jobs w None None below) ∙ ap (λ k. get_or (set jobs w None) k None) (sym same) ∙ h))
  | inr other ↦ (other, sym (get_or-set_other jobs w v None None other) ∙ h)
]

-- one more
given-all : (S : PlainSearch) (jobs : List (Option Job)) (w : ℕ) (job : Job) → w < length jobs → AllHeld S jobs → IsHeldJob S job → AllHeld S (set jobs w (Some job))
given-all S jobs w job below all held v other h = elim (cases_eq v w) [
  | inl same ↦ subst (IsHeldJob S) (some-job job other (sym (get_or-set_same jobs w (Some job) None below) ∙ ap (λ k. get_or (set jobs w (Some job)) k None) (sym same) ∙ h)) held
  | inr apart ↦ all v other (sym (get_or-set_other jobs w v (Some job) None apart) ∙ h)
]

-- those that are left are of open leaves
kept-open : (S : PlainSearch) (j : Option Job) (job : Job) → kept_job S j ≡ Some job → (j ≡ Some job) × (has_open S job.id ≡ true)
kept-open S None job e = absurd (no-job job e)
kept-open S (Some k) job e = by (has_open S k.id) refl e
  where
    by : (b : Bool) → has_open S k.id ≡ b → option_map (λ (id : ℕ). k) (if b then Some k.id else None) ≡ Some job → (Some k ≡ Some job) × (has_open S job.id ≡ true)
    by true o f = (f, ap (λ (z : Job). has_open S z.id) (sym (some-job k job f)) ∙ o)
    by false o f = absurd (no-job job f)

left-open : (S : PlainSearch) (jobs : List (Option Job)) (v : ℕ) (job : Job) → get_or (jobs_on S jobs) v None ≡ Some job → (get_or jobs v None ≡ Some job) × (has_open S job.id ≡ true)
left-open S [] v job h = absurd (no-job job h)
left-open S (j ∷ jobs) zero job h = kept-open S j job h
left-open S (j ∷ jobs) (suc v) job h = left-open S jobs v job h

-- a job of another leaf is held through a result
held-through : (ways : Ways) (first : Basis) (pivots : ℕ) (S T : PlainSearch) → IsSound S → IsNumbered T.tree → (p : Places ways first pivots S T) → (job : Job) → IsHeldJob S job → job.id ≢ p.job.id → has_open T job.id ≡ true → IsHeldJob T job
held-through ways first pivots S T sound numbered p job held other is_open =
    let now = (more-cuts p.found.items S p.mid p.adds).now in
    let points : All (IsKeepable p.mid.model) p.mid.points = subst (λ (X : PlainSearch). All (IsKeepable X.model) X.points) (sym now) sound.points in
    held-on p.mid T numbered p.job.id (placing-other p.mid p.job.id p.result T p.taken p.takes) job (job-after S p.found.items p.mid p.adds job held) other is_open
    (fallen-taken p.mid points p.job.id p.result T p.taken p.takes)

-- ---- what holds after n results

pub record IsUnderway (working : Working) (order : Order) (nodes n : ℕ) (old : PlainSearch) (P : PlainManager) (jobs : List (Option Job)) (words : Lcg) : Type 0 where
  pub model : P.search.model ≡ old.model
  pub turns : List Turn
  pub drives : Drives working.ways working.first.now working.pivots turns (first_crew old order) (record { search = P.search; jobs = jobs; words = words })
  pub going : NoneDone working.ways working.first.now working.pivots order.gap turns (first_crew old order) (record { search = P.search; jobs = jobs; words = words }) drives
  pub results : placings turns ≡ n
  pub extends : Extends old.tree.root P.search.tree.root
  pub work : n + work_of P.search ≤ work_of old
  pub room : IsRoomy old → IsRoomy P.search
  pub ready : IsReady working P.search
  pub limit : n ≤ nodes
  pub held : P.held ≡ held_of jobs
  pub all : AllHeld P.search jobs

module _ (working : Working) (order : Order) (nodes : ℕ) (old : PlainSearch) where
  pub begins : (P : PlainManager) (jobs : List (Option Job)) (words : Lcg) → P.search ≡ old → IsReady working old → P.held ≡ replicate order.workers None → jobs ≡ replicate order.workers None → words ≡ first_words order.seed
      → IsUnderway working order nodes 0 old P jobs words
  begins P jobs words same ready none jobs_are words_are =
      subst (λ X. X) (λ i. IsUnderway working order nodes 0 old (record { search = sym same i; held = sym none i }) (sym jobs_are i) (sym words_are i))
      (record {
        model = refl;
        turns = [];
        drives = refl;
        going = tt;
        results = refl;
        extends = extends-self old.tree.root;
        work = omega arith;
        room = λ roomy. roomy;
        ready = ready;
        limit = omega arith;
        held = sym (held-none order.workers);
        all = none-all old order.workers;
      })

  module _ (n : ℕ) (P : PlainManager) (jobs : List (Option Job)) (words : Lcg) (h : IsUnderway working order nodes n old P jobs words) where
    abbrev S : PlainSearch
    S = P.search

    abbrev crew : Crew
    crew = record { search = P.search; jobs = jobs; words = words }

    pub goes : IsSound S → Goes working.ways working.first.now working.pivots order n old S
    goes sound = record { crew = crew; search_is = refl; turns = h.turns; drives = h.drives; going = h.going; results = h.results; model = h.model; extends = h.extends; work = h.work; room = h.room; sound = sound }

    below : (n ≡ nodes → ⊥) → n < nodes
    below other = let most : n ≤ nodes = h.limit in omega (arith, most, other)

    -- without memory in the next turn, which the limit allows
    pub gives-up : ¬ IsGapReached working.ways order.gap S → (T : PlainSearch) → IsSound S → (n ≡ nodes → ⊥) → (T ≡ S) ⊎ LeavesTurn working.ways working.first.now working.pivots crew S T → GivesUp working.ways working.first.now order nodes working.pivots old T
    unfolding goes
    gives-up not_done T sound other left = record { results = n; within_limit = h.limit; mid = S; goes = goes sound; adds = with-cause (below other) left; going = inr not_done }

    -- without memory before it
    pub gives-same : IsSound S → GivesUp working.ways working.first.now order nodes working.pivots old S
    gives-same sound = record { results = n; within_limit = h.limit; mid = S; goes = goes sound; adds = inl refl; going = inl refl }

    pub jobs-of : AreJobsOf P jobs
    jobs-of = record { held = h.held; each = h.all }

    -- ---- a turn

    -- a leaf is handed out
    pub hands-on : ¬ IsGapReached working.ways order.gap S → (Q : PlainManager) (after : List (Option Job)) (left : Lcg) → HandsTurn P jobs words Q after left → IsUnderway working order nodes n old Q after left
    hands-on not_done Q after left t =
        let w : ℕ = t.turn.w in
        let job : Job = t.hands.job in
        let g = t.hands.gives in
        let gives : GivesJob (manager_of crew) w job (manager_of (record { search = S; jobs = set jobs w (Some job); words = left })) = record {
          idle = subst (λ (held : List (Option ℕ)). get_or held w None ≡ None) h.held g.idle;
          next = subst (λ held. IsNextFree S held (Some job.id)) h.held g.next;
          job_is = g.job_is;
          new_is = λ i. record { search = S; held = held-set jobs w (Some job) i };
        } in
        subst (λ X. X) (λ i. IsUnderway working order nodes n old (sym g.new_is i) (sym t.hands.jobs_are i) left)
        (record {
          model = h.model;
          turns = HandOut ∷ h.turns;
          drives = (crew, (h.drives, record { w = w; acts = t.turn.acts; job = job; gives = gives; jobs_are = refl }));
          going = (h.going, not_done);
          results = let same : placings h.turns ≡ n = h.results in omega (arith, same);
          extends = h.extends;
          work = h.work;
          room = h.room;
          ready = h.ready;
          limit = h.limit;
          held = ap (λ l. set l w (Some job.id)) h.held ∙ sym (held-set jobs w (Some job));
          all = given-all S jobs w job t.turn.within h.all (held-first S job g.job_is);
        })

    -- a result is placed
    pub goes-on : ¬ IsGapReached working.ways order.gap S → IsManager P → (Q : PlainManager) → IsSound Q.search → IsNumbered Q.search.tree → (n ≡ nodes → ⊥) → (after : List (Option Job)) (left : Lcg) → WorksTurn working P jobs words stepped.Placed Q after left → IsUnderway working order nodes (n + 1) old Q after left
    goes-on not_done manager Q sound numbered other after left t =
        let T : PlainSearch = Q.search in
        let w : ℕ = t.turn.w in
        let p = t.steps.1.0 in
        let same : p.job ≡ t.job = t.steps.1.1 in
        let less : work_of T + 1 ≤ work_of S = t.steps.0.work in
        let work : n + work_of S ≤ work_of old = h.work in
        let under : n < nodes = below other in
        let own : HoldsLeaf P.held w t.job.id = ap (λ l. get_or l w None) h.held ∙ held-at jobs w ∙ ap (option_map id_of) t.holds in
        let through : AllHeld T (jobs_on T (set jobs w None)) = λ v j e.
        let (was, is_open) = left-open T (set jobs w None) v j e in
        let (apart, there) = without-all jobs w t.turn.within v j was in
        let theirs : HoldsLeaf P.held v j.id = ap (λ l. get_or l v None) h.held ∙ held-at jobs v ∙ ap (option_map id_of) there in
        held-through working.ways working.first.now working.pivots S T manager.sound numbered p j (h.all v j there) (λ ids. apart (manager.held.one v w t.job.id (theirs ∙ ap Some (ids ∙ ap id_of same)) own)) is_open
        in
        record {
          model = t.steps.0.model ∙ h.model;
          turns = PlaceResult ∷ h.turns;
          drives = (crew, (h.drives, record { w = w; acts = t.turn.acts; places = p; holds = t.holds ∙ ap Some (sym same); jobs_are = t.jobs_are; sound = sound; numbered = numbered }));
          going = (h.going, not_done);
          results = ap (λ m. m + 1) h.results;
          extends = extends-on old.tree.root S.tree.root T.tree.root h.extends (extends-placed S manager.sound manager.numbered working.ways working.first.now working.pivots T p);
          work = omega (arith, less, work);
          room = λ roomy. t.steps.0.room (h.room roomy);
          ready = ready-after working S T h.ready t.steps.0.model p;
          limit = omega (arith, under);
          held = t.freed ∙ ap (λ l. held_on T (set l w None)) h.held ∙ ap (held_on T) (sym (held-set jobs w None)) ∙ sym (held-kept T (set jobs w None)) ∙ ap held_of (sym t.jobs_are);
          all = subst (AllHeld T) (sym t.jobs_are) through;
        }

    -- ---- where it ends

    pub at-limit : ¬ IsGapReached working.ways order.gap S → IsSound S → n ≡ nodes → HasOpenLeaf S → Comes working order nodes old S (record { ended = Stopped why.Nodes; results = n })
    at-limit not_done sound all left = record { within_limit = h.limit; ends = record { goes = goes sound; all = all; going = not_done }; left = left; extends = h.extends }

    pub finishes : IsSound S → HasNoOpenLeaf S → Comes working order nodes old S (record { ended = Finished; results = n })
    finishes sound none = record { within_limit = h.limit; ends = record { goes = goes sound; finished = none }; left = none; extends = h.extends }

    pub ends-within : (g : ℚ) → order.gap ≡ Some g → IsGapReached working.ways order.gap S → IsSound S → Comes working order nodes old S (record { ended = Within g; results = n })
    ends-within g asked done sound =
        let here : IsGapReached working.ways (Some g) S = subst (λ gap. IsGapReached working.ways gap S) asked done in
        record { within_limit = h.limit; ends = record { goes = goes sound; asked = asked; done = here }; left = done-left working.ways g S here; extends = h.extends }

    module _ (Q : PlainManager) (after : List (Option Job)) (left : Lcg) where
      acts-on : (s : _) (t : WorksTurn working P jobs words s Q after left) (named : Job) → named ≡ t.job → ActsOn crew named
      acts-on s t named same = record { w = t.turn.w; left = left; acts = t.turn.acts; holds = t.holds ∙ ap Some (sym same) }

      pub finds-point : ¬ IsGapReached working.ways order.gap S → IsSound S → IsNumbered S.tree → (n ≡ nodes → ⊥) → WorksTurn working P jobs words stepped.Found Q after left → Comes working order nodes old Q.search (record { ended = Unbounded; results = n + 1 })
      unfolding goes
      finds-point not_done sound numbered other t =
          let here = t.steps.0 in
          record {
            within_limit = let under : n < nodes = below other in omega (arith, under);
            ends = record {
              before = n;
              counted = refl;
              after = record { mid = S; goes = goes sound; below_limit = below other; here = here; turn = acts-on stepped.Found t here.job t.steps.1; going = not_done };
              unbounded = subst IsUnbounded h.model (point-unbounded working.ways S here.rays h.ready.ways here.job working.first.now working.pivots here.point here.mult here.basis here.found here.works.worked_is);
            };
            left = (here.job.id, (here.job.region, here.keeps.stays));
            extends = extends-on old.tree.root S.tree.root Q.search.tree.root h.extends (extends-kept S sound numbered here.job here.found.items (Some here.point) here.basis Q.search here.keeps);
          }

    stop-left : (T : PlainSearch) (w : StopWhy) → HasOpenLeaf S → StopsAtNext working.ways working.first.now working.pivots S T w → HasOpenLeaf T
    stop-left T why.Nodes left here = absurd here
    stop-left T why.Tree left here = open-added S here.found.items T here.adds left
    stop-left T (why.Pivots place) left here = (here.job.id, (here.job.region, here.keeps.stays))
    stop-left T (why.Wide at) left (inl here) = (here.job.id, (here.job.region, here.keeps.stays))
    stop-left T (why.Wide at) left (inr here) = (here.job.id, (here.job.region, here.keeps.stays))

    module _ (Q : PlainManager) (after : List (Option Job)) (left : Lcg) (reason : StopWhy) (t : WorksTurn working P jobs words (stepped.Stopped reason) Q after left) where
      abbrev T : PlainSearch
      T = Q.search

      turn-of : (named : Job) → named ≡ t.job → ActsOn crew named
      turn-of named same = acts-on Q after left (stepped.Stopped reason) t named same

      stops-for : ¬ IsGapReached working.ways order.gap S → (w : StopWhy) → IsSound S → (n ≡ nodes → ⊥) → (here : StopsAtNext working.ways working.first.now working.pivots S T w) → IsStopOf working.ways working.first.now working.pivots S T w here t.job
          → StopsFor working.ways working.first.now order nodes working.pivots n old T w
      unfolding goes
      stops-for not_done why.Nodes sound other here of = absurd here
      stops-for not_done why.Tree sound other here of = record { mid = S; goes = goes sound; below_limit = below other; here = here; turn = turn-of here.job of; going = not_done }
      stops-for not_done (why.Pivots place) sound other here of = record { mid = S; goes = goes sound; below_limit = below other; here = here; turn = turn-of here.job of; going = not_done }
      stops-for not_done (why.Wide at) sound other (inl here) of = record { mid = S; goes = goes sound; below_limit = below other; here = inl here; turn = turn-of here.job of; going = not_done }
      stops-for not_done (why.Wide at) sound other (inr here) of = record { mid = S; goes = goes sound; below_limit = below other; here = inr here; turn = turn-of here.job of; going = not_done }

      pub stops : ¬ IsGapReached working.ways order.gap S → IsSound S → IsNumbered S.tree → (n ≡ nodes → ⊥) → HasOpenLeaf S → Comes working order nodes old T (record { ended = Stopped reason; results = n })
      stops not_done sound numbered other is_open = record {
        within_limit = h.limit;
        ends = stops-for not_done reason sound other t.steps.0 t.steps.1;
        left = stop-left T reason is_open t.steps.0;
        extends = extends-on old.tree.root S.tree.root T.tree.root h.extends (extends-stopped S sound numbered working.ways working.first.now working.pivots T reason t.steps.0);
      }

-- ---- without memory before the first turn
pub gives-none : (working : Working) (order : Order) (nodes : ℕ) (P : PlainManager) → IsSound P.search → IsReady working P.search → P.held ≡ replicate order.workers None → GivesUp working.ways working.first.now order nodes working.pivots P.search P.search
gives-none working order nodes P sound ready none =
    gives-same working order nodes P.search 0 P (replicate order.workers None) (first_words order.seed)
    (begins working order nodes P.search P (replicate order.workers None) (first_words order.seed) refl ready none refl refl)
    sound
