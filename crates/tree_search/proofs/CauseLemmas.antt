-- Why a search stops, as seen from its start; and where there is enough it goes to the end.
use Rattle.std.specs.Prelude.{◌≡◌, ◌⊎◌, ℕ, zero, suc, Bool, true, false, if◌then◌else◌, List, [], ◌∷◌, length, Option, ◌+◌, ◌-◌, ◌<◌, ◌≤◌, Some, None, Result, Ok, Err, IfOk}
use Rattle.std.proofs.Common.{refl, sym, subst, ap, ◌∙◌, inl, inr, arith}
use Rattle.lp_model.specs.Program.{Program, Point}
use Rattle.lp_model.specs.Formulations.{Formulation, formulation}
use Rattle.lp_model.specs.declared.types.CutRow.{CutRow}
use Rattle.lp_model.specs.declared.types.Derivation.{Derivation}
use Rattle.lp_model.specs.Lawful.{IsLawful}
use Rattle.lp_model.specs.Regions.{Path}
use Rattle.lp_model.specs.declared.types.Basis.{Basis}
use Rattle.lp_model.specs.declared.types.WideStep.{WideStep}
use Rattle.lp_model.specs.declared.answers.PivotPlace.{PivotPlace}
use Rattle.lp_model.specs.declared.answers.WideAt.{WideAt}
use Rattle.lp_model.specs.declared.answers.StopWhy.{StopWhy}
use Rattle.lp_model.specs.declared.answers.StopWhy.TheVariants as why
use Rattle.branch_tree.specs.Changes.{HasRoom}
use Rattle.branch_tree.specs.declared.node.Job.{Job}
use Rattle.branch_tree.specs.declared.node.NodeResult.TheVariants.{Split as SplitAt, PointAndClose}
use Rattle.search_parts.specs.Lists.{IsBasis}
use Rattle.kept_cuts.specs.Kept.{derivations_of}
use Rattle.sound_searches.specs.Sound.{PlainSearch, IsSound}
use Rattle.search_counting.specs.Work.{whole_points, cap_of, work_of, splits_of, IsRoomy}
use Rattle.search_counting.proofs.CapLemmas.{work-cap, splits-cap}
use Rattle.search_counting.proofs.LowerLemmas.{has-room}
use Rattle.search_counting.proofs.RoomLemmas.{room-fewer}
use Rattle.search_counting.proofs.WorkLemmas.{open-work}
use Rattle.basic_solution.specs.Lists.{IsBasisOf}
use Rattle.node_solve.specs.Works.{IsRunWide}
use Rattle.node_solve.specs.Rounds.{Round, MakesRounds, EndsRounds, IsWorked}
use Rattle.node_solve.specs.Places.{live_cuts, live_places, basis_in_relaxation, basis_in_pool, with_cut_variables}
use Rattle.node_solve.specs.Laws.{AreAt, AreAllLive}
use Rattle.node_solve.proofs.AddedLemmas.{more-cuts}
use Rattle.node_solve.proofs.EndLemmas.{state_of}
use Rattle.node_solve.proofs.ListLemmas.{basis_there}
use Rattle.node_solve.proofs.LiveLemmas.{live-few, live-all, live-at}
use Rattle.node_solve.proofs.PoolLemmas.{basis-back}
use Rattle.node_solve.proofs.TakenLemmas.{IsPointIn, done_point}
use Rattle.node_solve.specs.declared.working.Worked.{Worked}
use Rattle.node_solve.specs.declared.working.Worked.TheVariants.{Done, Pivots, Wide}
use Rattle.basic_solution.specs.Held.{Held}
use Rattle.dual_simplex.proofs.SolveLemmas.{of_after}
use Rattle.tree_search.specs.Steps.{work_next, kept_basis, worked_model, IsWayFor, HasOpenLeaf, WorksNext, KeepsOpen, FullAtNext, PivotsAtNext, StepAtNext, ValueAtNext, StopsAtNext, IsRayWay}
use Rattle.tree_search.specs.Room.{AreAmong, IsSelection, IsWorkedRegion}
use Rattle.tree_search.specs.Causes.{IsPivotCause, IsStepCause, IsWideValue, IsWideValueBy, IsCause, HasStopCause, IsAtEnd, HasOwnValues, IsEnoughForSearch}
use Rattle.tree_search.specs.Extends.{Extends}
use Rattle.tree_search.specs.Turns.{Order, Goes}
use Rattle.tree_search.specs.Search.{StopsFor, Ends, IsLeft, Finds}
use Rattle.tree_search.specs.declared.searching.Ways.{Ways}
use Rattle.tree_search.specs.declared.searching.Ways.TheVariants.{Own, Rays}
use Rattle.tree_search.specs.declared.searching.Ended.{Ended}
use Rattle.tree_search.specs.declared.searching.Ended.TheVariants.{Finished, Within, Unbounded, Stopped}
use Rattle.tree_search.specs.declared.searching.Searched.{Searched}
use Rattle.tree_search.specs.declared.stepping.Working.{Working}
use Rattle.tree_search.specs.private.Stepping.{Comes}
use Rattle.tree_search.proofs.JobLemmas.{IsWorkedBy, worked-by, worked-region, job-region}
use Rattle.tree_search.proofs.KeepLemmas.{added-model, keeps-model, keeps-cuts}
use Rattle.tree_search.proofs.PlacedLemmas.{round-cuts, round-places, result-there, split-there}
use Rattle.tree_search.proofs.StepRoomLemmas.{lawful-after, all-stand, run-room}

-- ---- results that were placed

module _ (ways : Ways) (first : Basis) (pivots : ℕ) (order : Order) (old : PlainSearch) (sound : IsSound old) (lawful : IsLawful old.model) (n : ℕ) (mid : PlainSearch) (goes : Goes ways first pivots order n old mid) where
  most : n + work_of mid ≤ cap_of old.model
  most =
      let cap : work_of old ≤ cap_of old.model = work-cap old.model old.tree.root lawful sound.tree.lawful in
      let work : n + work_of mid ≤ work_of old = goes.work in
      omega (arith, cap, work)

  pub goes-cap : n ≤ cap_of old.model
  goes-cap = let h : n + work_of mid ≤ cap_of old.model = most in omega (arith, h)

  lawful_mid : IsLawful mid.model
  lawful_mid = subst IsLawful (sym goes.model) lawful

  left-work : HasOpenLeaf mid → 1 ≤ work_of mid
  left-work (id, (path, leaf)) = open-work mid id path leaf.kept goes.sound lawful_mid leaf.leaf leaf.state

  pub goes-below : HasOpenLeaf mid → n + 1 ≤ cap_of old.model
  goes-below left = let h : n + work_of mid ≤ cap_of old.model = most in let some : 1 ≤ work_of mid = left-work left in omega (arith, h, some)

  pub left-less : HasOpenLeaf mid → n + 1 ≤ work_of old
  left-less left = let work : n + work_of mid ≤ work_of old = goes.work in let some : 1 ≤ work_of mid = left-work left in omega (arith, work, some)

next-left : (ways : Ways) (first : Basis) (pivots : ℕ) (S : PlainSearch) (job : Job) (worked : Worked) → WorksNext ways first pivots S job worked → HasOpenLeaf S
next-left ways first pivots S job worked works = (job.id, (job.region, record { kept = works.held.kept; leaf = works.held.leaf; state = works.held.state }))

-- ---- the cuts of a relaxation are some of the pool's

among-later : (cuts : List CutRow) (c : CutRow) (pool : List CutRow) → AreAmong cuts pool → AreAmong cuts (c ∷ pool)
among-later [] c pool h = tt
among-later (d ∷ cuts) c pool h = inr h

among-live : (n : ℕ) (pool : List CutRow) → AreAmong (live_cuts n pool) pool
among-live zero pool = tt
among-live (suc n) [] = tt
among-live (suc n) (c ∷ pool) = by c.live (among-live n pool) (among-live (suc n) pool)
  where
    by : (t : Bool) → AreAmong (live_cuts n pool) pool → AreAmong (live_cuts (suc n) pool) pool → AreAmong (if t then c ∷ live_cuts n pool else live_cuts (suc n) pool) (c ∷ pool)
    by true h k = inl (refl, h)
    by false h k = among-later (live_cuts (suc n) pool) c pool k

selection-of : (M : Program) (cuts pool : List CutRow) → cuts ≡ live_cuts 200 pool → IsSelection M pool (formulation M cuts)
selection-of M cuts pool same =
    let few = live-few 200 pool in
    let count : length cuts ≡ length (live_cuts 200 pool) = ap length same in
    record { model = refl; cuts = subst (λ l. AreAmong l pool) (sym same) (among-live 200 pool); live = subst AreAllLive (sym same) (live-all 200 pool); few = omega (arith, few, count) }

run-weaker : (F : Formulation) (path : Path) (list first : Basis) (limit : ℕ) (P Q : Held → Type 0) → ((s : Held) → P s → Q s) → (basis : Basis) (step : WideStep) → IsRunWide F path list first limit P basis step → IsRunWide F path list first limit Q basis step
run-weaker F path list first limit P Q w basis step (inl h) = inl h
run-weaker F path list first limit P Q w basis step (inr (n, (s, (run, (inl walking, is))))) = inr (n, (s, (run, (inl walking, is))))
run-weaker F path list first limit P Q w basis step (inr (n, (s, (run, (inr (allowed, (last, wide)), is))))) = inr (n, (s, (run, (inr (allowed, (w s last, wide)), is))))

-- ---- causes, at the search where it stops

module _ (ways : Ways) (first : Basis) (pivots : ℕ) (mid : PlainSearch) (sound_mid : IsSound mid) (by_mid : IsWorkedBy ways mid.model) where
  abbrev Y : Program
  Y = worked_model ways mid.model

  region-mid : (job : Job) (worked : Worked) → WorksNext ways first pivots mid job worked → IsWorkedRegion Y job.region
  region-mid job worked works = worked-region ways mid.model job.region by_mid (job-region mid sound_mid job works.held)

  -- the cuts of the last round, in the search after it
  cuts-new : (job : Job) (found : List Derivation) (point : Option Point) (basis : Basis) (new : PlainSearch) → (keeps : KeepsOpen mid job found point basis new) → (made : ℕ) (r : Round) → MakesRounds (work_next ways first pivots mid job) made r → found ≡ r.added → r.cuts ≡ live_cuts 200 new.cuts
  cuts-new job found point basis new keeps made r makes same =
      round-cuts ways first pivots mid by_mid job found keeps.mid keeps.adds made r makes same ∙ ap (live_cuts 200) (sym (keeps-cuts mid job found point basis new keeps))

  places-new : (job : Job) (found : List Derivation) (point : Option Point) (basis : Basis) (new : PlainSearch) → (keeps : KeepsOpen mid job found point basis new) → (made : ℕ) (r : Round) → MakesRounds (work_next ways first pivots mid job) made r → found ≡ r.added → r.places ≡ live_places 200 0 new.cuts
  places-new job found point basis new keeps made r makes same =
      round-places ways first pivots mid by_mid job found keeps.mid keeps.adds made r makes same ∙ ap (live_places 200 0) (sym (keeps-cuts mid job found point basis new keeps))

  pivots-at : (new : PlainSearch) (place : PivotPlace) → PivotsAtNext ways first pivots mid new place → IsPivotCause Y new.cuts first pivots place
  pivots-at new place here = by here.works.worked_is
    where
      by : IsWorked (work_next ways first pivots mid here.job) (Pivots place.basis here.found) → IsPivotCause Y new.cuts first pivots place
      by (made, (r, (makes, d))) =
          let cuts = cuts-new here.job here.found.items None (kept_basis new place.basis) new here.keeps made r makes d.found_are in
          record {
            form = formulation Y r.cuts;
            selection = selection-of Y r.cuts new.cuts cuts;
            cuts_are = here.cuts_are ∙ ap derivations_of (sym cuts);
            path = here.job.region;
            path_is = here.path_is;
            region = region-mid here.job (Pivots place.basis here.found) here.works;
            list = r.list;
            state = d.state;
            run = d.run;
            out = d.leaving;
            basis_is = d.basis_is;
          }

  step-at : (new : PlainSearch) (at : WideAt) → StepAtNext ways first pivots mid new at → IsStepCause ways mid.model new.cuts first pivots at
  step-at new at here = by here.works.worked_is
    where
      by : IsWorked (work_next ways first pivots mid here.job) (Wide at here.found) → IsStepCause ways mid.model new.cuts first pivots at
      by (made, (r, (makes, (leaf, (wide, found_are))))) =
          let cuts = cuts-new here.job here.found.items None (kept_basis new at.basis) new here.keeps made r makes found_are in
          record {
            path = here.job.region;
            path_is = leaf.path_is;
            region = region-mid here.job (Wide at here.found) here.works;
            form = formulation Y r.cuts;
            selection = selection-of Y r.cuts new.cuts cuts;
            cuts_are = leaf.cuts_are;
            list = r.list;
            wide = inl (run-weaker (formulation Y r.cuts) here.job.region r.list (with_cut_variables first 0 (length r.cuts)) pivots (EndsRounds (work_next ways first pivots mid here.job) made r) (λ s. Unit {0}) (λ s last. tt) at.basis at.step wide);
          }

  value-at : (new : PlainSearch) (at : WideAt) → ValueAtNext ways first pivots mid new at → IsStepCause ways mid.model new.cuts first pivots at
  value-at new at here = by (done_point (work_next ways first pivots mid here.job) here.point here.mult here.basis here.found here.works.worked_is)
    where
      by : (p : IsPointIn (work_next ways first pivots mid here.job) here.point) × ((here.basis ≡ basis_in_pool p.round.places p.basis) × (here.found.items ≡ p.round.added)) → IsStepCause ways mid.model new.cuts first pivots at
      by (p, (basis, added)) =
          let cuts = cuts-new here.job here.found.items None here.basis new here.keeps p.made p.round p.makes added in
          let places = places-new here.job here.found.items None here.basis new here.keeps p.made p.round p.makes added in
          let stands : AreAt new.cuts p.round.cuts p.round.places = subst (λ X. X) (λ i. AreAt new.cuts (sym cuts i) (sym places i)) (live-at 200 new.cuts) in
          let is = state_of (work_next ways first pivots mid here.job) p.round p.moves p.state p.run in
          let lists : IsBasis (formulation Y p.round.cuts) p.basis = basis_there (formulation Y p.round.cuts) here.job.region p.state is p.basis p.found.basis_is in
          let own : at.basis ≡ p.basis =
          here.basis_is ∙ (λ i. basis_in_relaxation (sym places i) (basis i)) ∙ basis-back Y new.cuts p.round.cuts p.round.places stands p.basis lists in
          record {
            path = here.job.region;
            path_is = here.path_is;
            region = region-mid here.job (Done (PointAndClose here.point here.mult here.basis) here.found) here.works;
            form = formulation Y p.round.cuts;
            selection = selection-of Y p.round.cuts new.cuts cuts;
            cuts_are = here.cuts_are ∙ ap derivations_of (sym cuts);
            list = p.round.list;
            wide = inr (value ways here.rays (record {
              moves = p.moves;
              state = p.state;
              run = p.run;
              few = p.allowed.within;
              basis_is = subst (IsBasisOf p.state) (sym own) p.found.basis_is;
              point = here.point;
              point_is = p.found.optimum.point;
              wide = here.wide;
            }));
          }
        where
          value : (w : Ways) → IsRayWay w → IsWideValue (formulation Y p.round.cuts) mid.model here.job.region p.round.list first pivots at.basis at.step → IsWideValueBy w (formulation Y p.round.cuts) mid.model here.job.region p.round.list first pivots at.basis at.step
          value Own rays h = absurd rays
          value (Rays Z) rays h = h

  -- a leaf that can be split has room where all splits have
  full-at : IsLawful mid.model → (new : PlainSearch) → FullAtNext ways first pivots mid new → ¬ IsRoomy mid
  full-at lawful new here roomy =
      let is = here.works.held in
      let result = SplitAt here.col here.v here.mult here.basis in
      let there = result-there ways first pivots mid by_mid here.job here.found.items new here.adds lawful result here.found refl here.works.worked_is in
      let room : HasRoom mid.tree =
      has-room mid here.job.id here.job.region is.kept here.col.0 here.v sound_mid lawful is.leaf is.state (split-there ways mid.model by_mid new.cuts here.job.target here.job.region here.col here.v here.mult here.basis there) roomy in
      here.full (subst HasRoom (sym (ap (λ (X : PlainSearch). X.tree) (more-cuts here.found.items mid new here.adds).now)) room)

-- ---- causes, from the start

module _ (ways : Ways) (first : Basis) (order : Order) (nodes pivots : ℕ) (old : PlainSearch) (sound : IsSound old) (lawful : IsLawful old.model) (way : IsWayFor old ways) where
  abbrev Z : Program
  Z = worked_model ways old.model

  by-old : IsWorkedBy ways old.model
  by-old = worked-by old ways way

  module _ (n : ℕ) (mid : PlainSearch) (goes : Goes ways first pivots order n old mid) where
    by-mid : IsWorkedBy ways mid.model
    by-mid = subst (IsWorkedBy ways) (sym goes.model) by-old

    tree-cause : (new : PlainSearch) → FullAtNext ways first pivots mid new → ¬ IsRoomy old
    tree-cause new full roomy = full-at ways first pivots mid goes.sound by-mid (subst IsLawful (sym goes.model) lawful) new full (goes.room roomy)

    pivots-cause : (new : PlainSearch) (place : PivotPlace) → PivotsAtNext ways first pivots mid new place → IsPivotCause Z new.cuts first pivots place
    pivots-cause new place here = subst (λ M. IsPivotCause (worked_model ways M) new.cuts first pivots place) goes.model (pivots-at ways first pivots mid goes.sound by-mid new place here)

    step-cause : (new : PlainSearch) (at : WideAt) → StepAtNext ways first pivots mid new at ⊎ ValueAtNext ways first pivots mid new at → IsStepCause ways old.model new.cuts first pivots at
    step-cause new at (inl here) = subst (λ M. IsStepCause ways M new.cuts first pivots at) goes.model (step-at ways first pivots mid goes.sound by-mid new at here)
    step-cause new at (inr here) = subst (λ M. IsStepCause ways M new.cuts first pivots at) goes.model (value-at ways first pivots mid goes.sound by-mid new at here)

  stop-cause : (n : ℕ) (new : PlainSearch) (w : StopWhy) → HasOpenLeaf new → StopsFor ways first order nodes pivots n old new w → IsCause old new.cuts ways first nodes pivots w
  stop-cause n new why.Nodes left h =
      let less : n + 1 ≤ work_of old = left-less ways first pivots order old sound lawful n new h.goes left in
      let all : n ≡ nodes = h.all in
      omega (arith, less, all)
  stop-cause n new why.Tree left h = tree-cause n h.mid h.goes new h.here
  stop-cause n new (why.Pivots place) left h = pivots-cause n h.mid h.goes new place h.here
  stop-cause n new (why.Wide at) left h = step-cause n h.mid h.goes new at h.here

  has-cause : (n : ℕ) (new : PlainSearch) (e : Ended) → IsLeft new e → Ends ways first order nodes pivots n old new e → HasStopCause old new.cuts ways first nodes pivots e
  has-cause n new Finished left h = tt
  has-cause n new (Within g) left h = tt
  has-cause n new Unbounded left h = tt
  has-cause n new (Stopped w) left h = stop-cause n new w left h

  -- ---- the whole search

  next-most : (n : ℕ) (mid : PlainSearch) (job : Job) (worked : Worked) → Goes ways first pivots order n old mid → WorksNext ways first pivots mid job worked → n + 1 ≤ cap_of old.model
  next-most n mid job worked goes works = goes-below ways first pivots order old sound lawful n mid goes (next-left ways first pivots mid job worked works)

  ends-cap : (n : ℕ) (new : PlainSearch) (e : Ended) → Ends ways first order nodes pivots n old new e → n ≤ cap_of old.model
  ends-cap n new Finished h = goes-cap ways first pivots order old sound lawful n new h.goes
  ends-cap n new (Within g) h = goes-cap ways first pivots order old sound lawful n new h.goes
  ends-cap n new Unbounded h =
      let most : h.before + 1 ≤ cap_of old.model = next-most h.before h.after.mid h.after.here.job (Done (PointAndClose h.after.here.point h.after.here.mult h.after.here.basis) h.after.here.found) h.after.goes h.after.here.works in
      let is : n ≡ h.before + 1 = h.counted in
      omega (arith, most, is)
  ends-cap n new (Stopped why.Nodes) h = goes-cap ways first pivots order old sound lawful n new h.goes
  ends-cap n new (Stopped why.Tree) h = goes-cap ways first pivots order old sound lawful n h.mid h.goes
  ends-cap n new (Stopped (why.Pivots place)) h = goes-cap ways first pivots order old sound lawful n h.mid h.goes
  ends-cap n new (Stopped (why.Wide at)) h = goes-cap ways first pivots order old sound lawful n h.mid h.goes

  next-model : (mid new : PlainSearch) (w : StopWhy) → StopsAtNext ways first pivots mid new w → new.model ≡ mid.model
  next-model mid new why.Nodes h = absurd h
  next-model mid new why.Tree h = added-model mid h.found.items new h.adds
  next-model mid new (why.Pivots place) h = keeps-model mid h.job h.found.items None (kept_basis new place.basis) new h.keeps
  next-model mid new (why.Wide at) (inl h) = keeps-model mid h.job h.found.items None (kept_basis new at.basis) new h.keeps
  next-model mid new (why.Wide at) (inr h) = keeps-model mid h.job h.found.items None h.basis new h.keeps

  ends-model : (n : ℕ) (new : PlainSearch) (e : Ended) → Ends ways first order nodes pivots n old new e → new.model ≡ old.model
  ends-model n new Finished h = h.goes.model
  ends-model n new (Within g) h = h.goes.model
  ends-model n new Unbounded h = keeps-model h.after.mid h.after.here.job h.after.here.found.items (Some h.after.here.point) h.after.here.basis new h.after.here.keeps ∙ h.after.goes.model
  ends-model n new (Stopped why.Nodes) h = h.goes.model
  ends-model n new (Stopped why.Tree) h = next-model h.mid new why.Tree h.here ∙ h.goes.model
  ends-model n new (Stopped (why.Pivots place)) h = next-model h.mid new (why.Pivots place) h.here ∙ h.goes.model
  ends-model n new (Stopped (why.Wide at)) h = next-model h.mid new (why.Wide at) h.here ∙ h.goes.model

  pub finds : (new : PlainSearch) (searched : Searched) → searched.results ≤ nodes → Ends ways first order nodes pivots searched.results old new searched.ended → IsLeft new searched.ended → Extends old.tree.root new.tree.root → Finds ways first order nodes pivots old new searched
  finds new searched few ends left extends = record {
    within_limit = few;
    within_cap = ends-cap searched.results new searched.ended ends;
    model = ends-model searched.results new searched.ended ends;
    ends = ends;
    left = left;
    extends = extends;
    cause = has-cause searched.results new searched.ended left ends;
  }

  -- ---- searches that go to the end

  module _ (pool : List CutRow) (enough : IsEnoughForSearch old pool ways nodes pivots) where
    no-value : (w : Ways) → HasOwnValues w pool old.model → (F : Formulation) → IsSelection (worked_model w old.model) pool F → (path : Path) → IsWorkedRegion (worked_model w old.model) path → (list : Basis) (basis : Basis) (step : WideStep)
        → ¬ IsWideValueBy w F old.model path list first pivots basis step
    no-value Own h F selection path region list basis step wide = wide
    no-value (Rays Y) h F selection path region list basis step wide =
        let run = wide.run in
        h F selection path region run.relax run.relax_is wide.state (of_after run.relax wide.moves run.began wide.state run.moves run.started.reached.is)
        (all-stand wide.state (lawful-after wide.moves run.began wide.state run.kept run.moves)) wide.point wide.point_is step wide.wide

    no-cause : (w : StopWhy) → ¬ IsCause old pool ways first nodes pivots w
    no-cause why.Nodes below =
        let cap : work_of old ≤ cap_of old.model = work-cap old.model old.tree.root lawful sound.tree.lawful in
        let within : cap_of old.model ≤ nodes = enough.results in
        no_less nodes (work_of old) (cap_of old.model) below cap within
      where
        no_less : (m a c : ℕ) → m < a → a ≤ c → c ≤ m → ⊥
        no_less m a c h k l = omega (arith, h, k, l)
    no-cause why.Tree unroomy = unroomy (room-fewer old.tree (whole_points old.model - 1) (splits_of old) (splits-cap old.model old.tree.root lawful sound.tree.lawful) enough.room)
    no-cause (why.Pivots place) cause =
        let run = cause.run in
        let less : pivots < pivots = enough.moves cause.form cause.selection cause.path cause.region run.relax run.relax_is run.began run.started.reached.is run.kept pivots cause.state run.moves in
        omega (arith, less)
    no-cause (why.Wide at) cause = elim cause.wide [
      | inl wide ↦ run-room Z pool enough.steps cause.form cause.selection cause.path cause.region cause.list (with_cut_variables first 0 (length cause.form.cuts)) pivots (λ s. Unit {0}) at.basis at.step wide
      | inr wide ↦ no-value ways enough.values cause.form cause.selection cause.path cause.region cause.list at.basis at.step wide
    ]

  module _ (new : PlainSearch) (enough : IsEnoughForSearch old new.cuts ways nodes pivots) where
    pub at-end : (searched : Searched) → Finds ways first order nodes pivots old new searched → IsAtEnd searched.ended
    at-end searched h = ended searched.ended h.cause
      where
        ended : (e : Ended) → HasStopCause old new.cuts ways first nodes pivots e → IsAtEnd e
        ended Finished cause = tt
        ended (Within g) cause = tt
        ended Unbounded cause = tt
        ended (Stopped w) cause = no-cause new.cuts enough w cause

-- ---- what is answered

module _ (working : Working) (order : Order) (nodes : ℕ) (old : PlainSearch) (sound : IsSound old) (lawful : IsLawful old.model) (way : IsWayFor old working.ways) (new : PlainSearch) where
  from-comes : (searched : Searched) → Comes working order nodes old new searched → Finds working.ways working.first.now order nodes working.pivots old new searched
  from-comes searched h = finds working.ways working.first.now order nodes working.pivots old sound lawful way new searched h.within_limit h.ends h.left h.extends

  pub found : {E : Type 0} (r : Result Searched E) → IfOk r (λ searched. Comes working order nodes old new searched) → IfOk r (λ searched. Finds working.ways working.first.now order nodes working.pivots old new searched)
  found (Ok searched) h = from-comes searched h
  found (Err e) h = tt

  pub complete : {E : Type 0} (r : Result Searched E) → IfOk r (λ searched. Comes working order nodes old new searched) → IfOk r (λ searched. IsEnoughForSearch old new.cuts working.ways nodes working.pivots → IsAtEnd searched.ended)
  complete (Ok searched) h = λ enough. at-end working.ways working.first.now order nodes working.pivots old sound lawful way new enough searched (from-comes searched h)
  complete (Err e) h = tt
