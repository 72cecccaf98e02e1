-- Turns, and searches that end, as lists of the manager's events.
use Rattle.std.specs.Prelude.{◌≡◌, ◌⊎◌, ℕ, ◌+◌, ◌<◌, ◌≤◌, All, List, [], ◌∷◌, ◌++◌, length, map, set, take, Option, Some, None}
use Rattle.std.proofs.Common.{refl, sym, subst, ap, ◌∙◌, inl, inr, arith}
use Rattle.std.proofs.lemmas.List.{length_push, length-take}
use Rattle.std.proofs.lemmas.List.Elements.{All-nil, All-cons, All-append, All-push}
use Rattle.lp_model.specs.Limits.{pool_limit}
use Rattle.lp_model.specs.Formulations.{formulation}
use Rattle.lp_model.specs.declared.types.Basis.{Basis}
use Rattle.lp_model.specs.declared.types.CutRow.{CutRow}
use Rattle.lp_model.specs.declared.types.Derivation.{Derivation}
use Rattle.lp_model.specs.declared.answers.StopWhy.TheVariants as why
use Rattle.lp_model.specs.Program.{Point}
use Rattle.cover_cuts.specs.Cuts.{IsCutOf}
use Rattle.branch_tree.specs.Numbered.{IsNumbered}
use Rattle.branch_tree.specs.declared.node.Job.{Job}
use Rattle.branch_tree.specs.declared.node.NodeResult.{NodeResult}
use Rattle.branch_tree.specs.declared.node.NodeResult.TheVariants.{Keep}
use Rattle.leaf_judging.specs.Closing.{IsJudgedLeaf}
use Rattle.search_parts.specs.Points.{target}
use Rattle.sound_searches.specs.declared.taken.Taken.{Taken}
use Rattle.sound_searches.specs.declared.taken.Taken.TheVariants.{Stale, Refused, Reopened, Full, Closed, Split, Kept}
use Rattle.sound_searches.specs.Sound.{PlainSearch, IsSound, formulation_of}
use Rattle.sound_searches.specs.Pool.{search_with_cut, AddsCuts}
use Rattle.sound_searches.specs.Placing.{Takes}
use Rattle.sound_searches.proofs.FurtherCut.{lists-more, judged-more, each-more}
use Rattle.search_counting.specs.Laws.{IsEffective}
use Rattle.tree_manager.specs.Managers.{PlainManager, held_on, idle_manager}
use Rattle.tree_manager.specs.Events.{Event, Give, Take, AddCut, IsHistory}
use Rattle.tree_search.specs.Turns.{Order, Crew, held_of, manager_of, first_crew, HandsOut, PlacesInTurn, Turn, HandOut, PlaceResult, IsTurnOf, Drives, placings_in, placings, Goes}
use Rattle.tree_search.specs.Steps.{work_next, KeepsOpen}
use Rattle.node_solve.specs.Rounds.{IsWorked}
use Rattle.node_solve.specs.declared.working.Worked.{Worked}
use Rattle.node_solve.specs.declared.working.Worked.TheVariants.{Done, Pivots, Wide, Memory}
use Rattle.tree_search.specs.GivingUp.{cuts_found, LeavesTurn}
use Rattle.tree_search.specs.Search.{Ends, GivesUp, WideAtNext}
use Rattle.tree_search.specs.Driven.{result_events, turn_events, drive_events, results_of, results_in, IsWorkEvent, HasHistory, DriveLaw}
use Rattle.tree_search.specs.declared.searching.Ways.{Ways}
use Rattle.tree_search.specs.declared.searching.Ended.{Ended}
use Rattle.tree_search.specs.declared.searching.Ended.TheVariants.{Finished, Within, Unbounded, Stopped}
use Rattle.tree_search.specs.declared.stepping.WorkEnd.TheVariants as end
use Rattle.tree_search.proofs.CrewLemmas.{held-kept, held-set, held-none, hands-same}
use Rattle.tree_search.proofs.FoundLemmas.{found-fits}

-- ---- lists of events

history-append : (es fs : List Event) (P Q R : PlainManager) → IsHistory P es Q → IsHistory Q fs R → IsHistory P (es ++ fs) R
history-append [] fs P Q R same h = subst (λ X. IsHistory X fs R) same h
history-append (e ∷ es) fs P Q R (mid, (first, rest)) h = (mid, (first, history-append es fs mid Q R rest h))

results-append : (es fs : List Event) → results_in (es ++ fs) ≡ results_in es + results_in fs
results-append [] fs = omega arith
results-append (e ∷ es) fs = let h : results_in (es ++ fs) ≡ results_in es + results_in fs = results-append es fs in omega (arith, h)

-- ---- cuts that are added

sound-more : (S : PlainSearch) (c : CutRow) → IsCutOf S.model c → length S.cuts < pool_limit → IsSound S → IsSound (search_with_cut S c)
sound-more S c is room h =
    let F = formulation_of S in
    let t = S.tree.root in
    let best = target S.model S.points in
    let count = length_push S.cuts c in
    record {
      tree = record { lawful = h.tree.lawful; narrow = h.tree.narrow; lists = lists-more F c t h.tree.lists };
      judged = each-more F c (λ p l. IsJudgedLeaf F best p l.kept) (λ p l. IsJudgedLeaf (formulation S.model (S.cuts ++ c ∷ [])) best p l.kept) (judged-more F c best) t h.tree.lists h.judged;
      points = h.points;
      few = h.few;
      pool = All-push (IsCutOf S.model) S.cuts c h.pool is;
      few_cuts = omega (arith, count, room);
    }

abbrev IsKept : PlainSearch → Type 0
IsKept S = IsSound S × IsNumbered S.tree

adds-history : (ds : List Derivation) (S T : PlainSearch) (held : List (Option ℕ)) → IsKept S → length S.cuts + length ds ≤ pool_limit → AddsCuts S ds T
    → IsHistory (record { search = S; held = held }) (map AddCut ds) (record { search = T; held = held }) × IsKept T
adds-history [] S T held kept few e = (ap (λ (X : PlainSearch). record { search = X; held = held }) e, subst IsKept (sym e) kept)
adds-history (d ∷ ds) S T held kept few (mid, (add, rest)) =
    let count : length mid.cuts ≡ length (S.cuts ++ add.cut ∷ []) = ap (λ (X : PlainSearch). length X.cuts) add.new_is in
    let more = length_push S.cuts add.cut in
    let kept' : IsKept mid = subst IsKept (sym add.new_is) (sound-more S add.cut add.is (omega (arith, few)) kept.0, kept.1) in
    let h = adds-history ds mid T held kept' (omega (arith, few, count, more)) rest in
    ((record { search = mid; held = held }, (record { does = (add, refl); sound = kept'.0; numbered = kept'.1 }, h.0)), h.1)

adds-results : (ds : List Derivation) → results_in (map AddCut ds) ≡ 0
adds-results [] = refl
adds-results (d ∷ ds) = let h : results_in (map AddCut ds) ≡ 0 = adds-results ds in omega (arith, h)

adds-work : (ds : List Derivation) → All IsWorkEvent (map AddCut ds)
adds-work [] = All-nil IsWorkEvent
adds-work (d ∷ ds) = All-cons IsWorkEvent (AddCut d) (map AddCut ds) tt (adds-work ds)

-- ---- cuts, and then a result

module _ (found : List Derivation) (w id : ℕ) (done : NodeResult) (taken : Taken) where
  result-history : (P : PlainManager) (mid : PlainSearch) (Q : PlainManager) → IsKept P.search → length P.search.cuts + length found ≤ pool_limit → AddsCuts P.search found mid → Takes mid id done Q.search taken
      → Q.held ≡ held_on Q.search (set P.held w None) → IsKept Q.search → IsHistory P (result_events found w id done taken) Q
  result-history P mid Q kept few adds takes held_is kept' =
      history-append (map AddCut found) (Take w id done taken ∷ []) P (record { search = mid; held = P.held }) Q (adds-history found P.search mid P.held kept few adds).0
      (Q, (record { does = record { takes = takes; held_is = held_is }; sound = kept'.0; numbered = kept'.1 }, refl))

  result-counted : (n : ℕ) → results_of done taken ≡ n → results_in (result_events found w id done taken) ≡ n
  result-counted n e =
      let both : results_in (result_events found w id done taken) ≡ results_in (map AddCut found) + (results_of done taken + 0) = results-append (map AddCut found) (Take w id done taken ∷ []) in
      let none : results_in (map AddCut found) ≡ 0 = adds-results found in
      omega (arith, both, none, e)

  result-work : All IsWorkEvent (result_events found w id done taken)
  result-work = All-append IsWorkEvent (map AddCut found) (Take w id done taken ∷ []) (adds-work found) (All-cons IsWorkEvent (Take w id done taken) [] tt (All-nil IsWorkEvent))

-- ---- turns

module _ (ways : Ways) (first : Basis) (pivots : ℕ) where
  hands-history : (a b : Crew) (h : HandsOut a b) → IsKept a.search → IsHistory (manager_of a) (Give h.w (Some h.job) ∷ []) (manager_of b) × IsKept b.search
  hands-history a b h kept =
      let kept' : IsKept b.search = subst IsKept (sym (hands-same a b h)) kept in
      ((manager_of b, (record { does = h.gives; sound = kept'.0; numbered = kept'.1 }, refl)), kept')

  places-history : (a b : Crew) (h : PlacesInTurn ways first pivots a b) → IsKept a.search
      → IsHistory (manager_of a) (result_events h.places.found.items h.w h.places.job.id h.places.result h.places.taken) (manager_of b) × IsKept b.search
  places-history a b h kept =
      let p = h.places in
      let few = found-fits (work_next ways first pivots a.search p.job) kept.0.few_cuts (end.Done p.result) p.found p.works.worked_is in
      let held_is : held_of b.jobs ≡ held_on b.search (set (held_of a.jobs) h.w None) = ap held_of h.jobs_are ∙ held-kept b.search (set a.jobs h.w None) ∙ ap (held_on b.search) (held-set a.jobs h.w None) in (
        result-history p.found.items h.w p.job.id p.result p.taken (manager_of a) p.mid (manager_of b) kept few p.adds p.takes held_is (h.sound, h.numbered),
        (h.sound, h.numbered),
      )

  turn-history : (t : Turn) (a b : Crew) (h : IsTurnOf ways first pivots t a b) → IsKept a.search → IsHistory (manager_of a) (turn_events ways first pivots t a b h) (manager_of b) × IsKept b.search
  turn-history HandOut a b h kept = hands-history a b h kept
  turn-history PlaceResult a b h kept = places-history a b h kept

  effective-one : (done : NodeResult) (taken : Taken) → IsEffective taken → results_of done taken ≡ 1
  effective-one done Stale h = absurd h
  effective-one done Refused h = absurd h
  effective-one done Reopened h = absurd h
  effective-one done Full h = absurd h
  effective-one done Closed h = refl
  effective-one done Split h = refl
  effective-one done Kept h = absurd h

  turn-results : (t : Turn) (a b : Crew) (h : IsTurnOf ways first pivots t a b) → results_in (turn_events ways first pivots t a b h) ≡ placings_in t
  turn-results HandOut a b h = refl
  turn-results PlaceResult a b h = let p = h.places in result-counted p.found.items h.w p.job.id p.result p.taken 1 (effective-one p.result p.taken p.effective)

  turn-work : (t : Turn) (a b : Crew) (h : IsTurnOf ways first pivots t a b) → All IsWorkEvent (turn_events ways first pivots t a b h)
  turn-work HandOut a b h = All-cons IsWorkEvent (Give h.w (Some h.job)) [] tt (All-nil IsWorkEvent)
  turn-work PlaceResult a b h = let p = h.places in result-work p.found.items h.w p.job.id p.result p.taken

  -- one after the other

  abbrev events : (turns : List Turn) (a b : Crew) → Drives ways first pivots turns a b → List Event
  events turns a b d = drive_events ways first pivots turns a b d

  drive-history : (turns : List Turn) (a b : Crew) (d : Drives ways first pivots turns a b) → IsKept a.search → IsHistory (manager_of a) (events turns a b d) (manager_of b) × IsKept b.search
  drive-history [] a b same kept = (ap manager_of same, subst (λ (c : Crew). IsKept c.search) (sym same) kept)
  drive-history (t ∷ turns) a b (mid, (before, turn)) kept =
      let h = drive-history turns a mid before kept in
      let k = turn-history t mid b turn h.1 in
      (history-append (events turns a mid before) (turn_events ways first pivots t mid b turn) (manager_of a) (manager_of mid) (manager_of b) h.0 k.0, k.1)

  drive-results : (turns : List Turn) (a b : Crew) (d : Drives ways first pivots turns a b) → results_in (events turns a b d) ≡ placings turns
  drive-results [] a b same = refl
  drive-results (t ∷ turns) a b (mid, (before, turn)) =
      let both : results_in (events turns a mid before ++ turn_events ways first pivots t mid b turn) ≡ results_in (events turns a mid before) + results_in (turn_events ways first pivots t mid b turn) =
      results-append (events turns a mid before) (turn_events ways first pivots t mid b turn) in
      let h : results_in (events turns a mid before) ≡ placings turns = drive-results turns a mid before in
      let k : results_in (turn_events ways first pivots t mid b turn) ≡ placings_in t = turn-results t mid b turn in
      omega (arith, both, h, k)

  drive-work : (turns : List Turn) (a b : Crew) (d : Drives ways first pivots turns a b) → All IsWorkEvent (events turns a b d)
  drive-work [] a b same = All-nil IsWorkEvent
  drive-work (t ∷ turns) a b (mid, (before, turn)) =
      All-append IsWorkEvent (events turns a mid before) (turn_events ways first pivots t mid b turn) (drive-work turns a mid before) (turn-work t mid b turn)

-- ---- turns from workers that hold nothing

-- so much was done until the search was this one
record Gone (order : Order) (n : ℕ) (old mid : PlainSearch) : Type 0 where
  done : List Event
  held : List (Option ℕ)
  history : IsHistory (idle_manager old order.workers) done (record { search = mid; held = held })
  work : All IsWorkEvent done
  results : results_in done ≡ n
  kept : IsKept mid

module _ (ways : Ways) (first : Basis) (order : Order) (pivots n : ℕ) (old : PlainSearch) (kept : IsKept old) where
  gone : (mid : PlainSearch) → Goes ways first pivots order n old mid → Gone order n old mid
  gone mid goes =
      let start = first_crew old order in
      let es = drive_events ways first pivots goes.turns start goes.crew goes.drives in
      let h = drive-history ways first pivots goes.turns start goes.crew goes.drives kept in
      let from : IsHistory (idle_manager old order.workers) es (manager_of goes.crew) =
      subst (λ held. IsHistory (record { search = old; held = held }) es (manager_of goes.crew)) (held-none order.workers) h.0 in
      record {
        done = es;
        held = held_of goes.crew.jobs;
        history = subst (λ (S : PlainSearch). IsHistory (idle_manager old order.workers) es (record { search = S; held = held_of goes.crew.jobs })) goes.search_is from;
        work = drive-work ways first pivots goes.turns start goes.crew goes.drives;
        results = drive-results ways first pivots goes.turns start goes.crew goes.drives ∙ goes.results;
        kept = subst IsKept goes.search_is h.1;
      }

  went : (new : PlainSearch) → Goes ways first pivots order n old new → HasHistory order n old new
  went new goes =
      let g = gone new goes in
      record { events = g.done; last = record { search = new; held = g.held }; search_is = refl; history = g.history; work = g.work; results = g.results }

  -- and further events
  module _ (mid : PlainSearch) (goes : Goes ways first pivots order n old mid) where
    goes-further : (fs : List Event) (m : ℕ) (last : PlainManager) → IsHistory (record { search = mid; held = (gone mid goes).held }) fs last → All IsWorkEvent fs → results_in fs ≡ m → HasHistory order (n + m) old last.search
    goes-further fs m last history work counted =
        let g = gone mid goes in
        let both : results_in (g.done ++ fs) ≡ results_in g.done + results_in fs = results-append g.done fs in
        let before : results_in g.done ≡ n = g.results in
        record {
          events = g.done ++ fs;
          last = last;
          search_is = refl;
          history = history-append g.done fs (idle_manager old order.workers) (record { search = mid; held = g.held }) last g.history history;
          work = All-append IsWorkEvent g.done fs g.work work;
          results = omega (arith, both, before, counted);
        }

    -- the cuts were added
    adds-further : (found : List Derivation) (new : PlainSearch) → length mid.cuts + length found ≤ pool_limit → AddsCuts mid found new → HasHistory order (n + 0) old new
    adds-further found new few adds =
        let g = gone mid goes in
        goes-further (map AddCut found) 0 (record { search = new; held = g.held }) (adds-history found mid new g.held g.kept few adds).0 (adds-work found) (adds-results found)

    -- and a leaf keeps a basis
    keeps-further : (w : ℕ) (job : Job) (found : List Derivation) (point : Option Point) (basis : Basis) (new : PlainSearch) (m : ℕ) → length mid.cuts + length found ≤ pool_limit → KeepsOpen mid job found point basis new
        → IsKept new → results_of (Keep point basis) Kept ≡ m → HasHistory order (n + m) old new
    keeps-further w job found point basis new m few keeps kept' counted =
        let g = gone mid goes in
        let last : PlainManager = record { search = new; held = held_on new (set g.held w None) } in
        goes-further (result_events found w job.id (Keep point basis) Kept) m last
        (result-history found w job.id (Keep point basis) Kept (record { search = mid; held = g.held }) keeps.mid last g.kept few keeps.adds keeps.takes refl kept')
        (result-work found w job.id (Keep point basis) Kept) (result-counted found w job.id (Keep point basis) Kept m counted)

-- ---- however it ends

none-more : (order : Order) (n : ℕ) (old new : PlainSearch) → HasHistory order (n + 0) old new → HasHistory order n old new
none-more order n old new h = subst (λ m. HasHistory order m old new) (omega arith) h

-- the cuts that the work on a leaf found have room
cuts-fit : (ways : Ways) (first : Basis) (pivots : ℕ) (S : PlainSearch) → length S.cuts ≤ pool_limit → (job : Job) (worked : Worked) → IsWorked (work_next ways first pivots S job) worked
    → length S.cuts + length (cuts_found worked) ≤ pool_limit
cuts-fit ways first pivots S few job (Done result found) is = found-fits (work_next ways first pivots S job) few (end.Done result) found is
cuts-fit ways first pivots S few job (Pivots basis found) is = found-fits (work_next ways first pivots S job) few (end.Pivots basis) found is
cuts-fit ways first pivots S few job (Wide at found) is = found-fits (work_next ways first pivots S job) few (end.Wide at) found is
cuts-fit ways first pivots S few job Memory is = omega (arith, few)

-- also without memory
gives-history : (ways : Ways) (first : Basis) (order : Order) (nodes pivots : ℕ) (old new : PlainSearch) → IsKept old → (up : GivesUp ways first order nodes pivots old new) → HasHistory order up.results old new
gives-history ways first order nodes pivots old new kept up = by up.adds
  where
    by : (new ≡ up.mid) ⊎ ((up.results < nodes) × LeavesTurn ways first pivots up.goes.crew up.mid new) → HasHistory order up.results old new
    by (inl same) = subst (HasHistory order up.results old) (sym same) (went ways first order pivots up.results old kept up.mid up.goes)
    by (inr (less, (job, (acts, h)))) =
        let all : List Derivation = cuts_found h.worked in
        let some : List Derivation = take h.adds.0 all in
        let fit : length up.mid.cuts + length all ≤ pool_limit = cuts-fit ways first pivots up.mid up.goes.sound.few_cuts job h.worked h.works.worked_is in
        let few : length up.mid.cuts + length some ≤ pool_limit = omega (arith, fit, length-take h.adds.0 all) in
        none-more order up.results old new (adds-further ways first order pivots up.results old kept up.mid up.goes some new few h.adds.1)

module _ (ways : Ways) (first : Basis) (order : Order) (nodes pivots : ℕ) (old new : PlainSearch) (kept : IsKept old) (kept' : IsKept new) where
  ends-history : (n : ℕ) (ended : Ended) → Ends ways first order nodes pivots n old new ended → HasHistory order n old new
  ends-history n Finished e = went ways first order pivots n old kept new e.goes
  ends-history n (Within g) e = went ways first order pivots n old kept new e.goes
  ends-history n Unbounded e =
      let a = e.after in
      let few = found-fits (work_next ways first pivots a.mid a.here.job) a.goes.sound.few_cuts (end.Done _) a.here.found a.here.works.worked_is in
      subst (λ m. HasHistory order m old new) (sym e.counted)
      (keeps-further ways first order pivots e.before old kept a.mid a.goes a.turn.w a.here.job a.here.found.items (Some a.here.point) a.here.basis new 1 few a.here.keeps kept' refl)
  ends-history n (Stopped why.Nodes) e = went ways first order pivots n old kept new e.goes
  ends-history n (Stopped why.Tree) e =
      let few = found-fits (work_next ways first pivots e.mid e.here.job) e.goes.sound.few_cuts (end.Done _) e.here.found e.here.works.worked_is in
      none-more order n old new (adds-further ways first order pivots n old kept e.mid e.goes e.here.found.items new few e.here.adds)
  ends-history n (Stopped (why.Pivots place)) e =
      let few = found-fits (work_next ways first pivots e.mid e.here.job) e.goes.sound.few_cuts (end.Pivots _) e.here.found e.here.works.worked_is in
      none-more order n old new (keeps-further ways first order pivots n old kept e.mid e.goes e.turn.w e.here.job e.here.found.items None _ new 0 few e.here.keeps kept' refl)
  ends-history n (Stopped (why.Wide at)) e = by e.here e.turn.w
    where
      by : WideAtNext ways first pivots e.mid new at → ℕ → HasHistory order n old new
      by (inl h) w =
          let few = found-fits (work_next ways first pivots e.mid h.job) e.goes.sound.few_cuts (end.Wide at) h.found h.works.worked_is in
          none-more order n old new (keeps-further ways first order pivots n old kept e.mid e.goes w h.job h.found.items None _ new 0 few h.keeps kept' refl)
      by (inr h) w =
          let few = found-fits (work_next ways first pivots e.mid h.job) e.goes.sound.few_cuts (end.Done _) h.found h.works.worked_is in
          none-more order n old new (keeps-further ways first order pivots n old kept e.mid e.goes w h.job h.found.items None _ new 0 few h.keeps kept' refl)

pub drive : DriveLaw
drive = record {
  turns = λ ways first pivots turns a b sound numbered d. (drive-history ways first pivots turns a b d (sound, numbered)).0;
  results = λ ways first pivots turns a b d. drive-results ways first pivots turns a b d;
  ends = λ ways first order nodes pivots n old new ended sound numbered sound' numbered' e. ends-history ways first order nodes pivots old new (sound, numbered) (sound', numbered') n ended e;
  gives = λ ways first order nodes pivots old new sound numbered up. gives-history ways first order nodes pivots old new (sound, numbered) up;
}
