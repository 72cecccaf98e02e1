-- Why no result is placed, where the cuts that were found are in the pool; and what a step comes to from the search before them.
use Rattle.std.specs.Prelude.{◌≡◌, ℕ, List, [], length, set, Option, Some, None, Result, Ok, Err, IfOk, OnOk, OnErr}
use Rattle.std.proofs.Common.{refl, sym, ap, subst, ◌∙◌, inl, inr}
use Rattle.std.proofs.Math.Seq.{take-length}
use Rattle.lp_model.specs.Program.{Point}
use Rattle.lp_model.specs.declared.types.Basis.{Basis}
use Rattle.lp_model.specs.declared.answers.PivotPlace.{PivotPlace}
use Rattle.lp_model.specs.declared.answers.WideAt.{WideAt}
use Rattle.lp_model.specs.declared.answers.StopWhy.TheVariants as why
use Rattle.lp_model.specs.declared.types.Derivation.{Derivation}
use Rattle.model_points.specs.Answers.{IsValueAnswer}
use Rattle.leaf_dual.specs.Dual.{Multipliers}
use Rattle.branch_tree.specs.declared.node.Job.{Job}
use Rattle.branch_tree.specs.declared.node.NodeResult.{NodeResult}
use Rattle.branch_tree.specs.declared.node.NodeResult.TheVariants.{Close, Split as SplitAt, PointAndClose, Keep}
use Rattle.sound_searches.specs.Pool.{AddsCuts, AddsSome}
use Rattle.sound_searches.specs.Sound.{PlainSearch}
use Rattle.kept_cuts.specs.Kept.{derivations_of}
use Rattle.node_solve.specs.Places.{live_cuts, live_places, basis_in_relaxation, basis_in_pool}
use Rattle.node_solve.specs.declared.working.Worked.{Worked}
use Rattle.node_solve.specs.declared.working.Worked.TheVariants.{Done, Pivots, Wide}
use Rattle.tree_search.specs.Steps.{FoundCuts, kept_basis, IsRayWay, IsPlacedBy, KeepsOpen}
use Rattle.tree_search.specs.GivingUp.{cuts_found, LeavesOf}
use Rattle.tree_manager.specs.Managers.{PlainManager, held_on}
use Rattle.tree_search.specs.private.Stepping.{WorksBy, IsFreed, Steps, worked_with}
use Rattle.tree_search.specs.declared.stepping.WorkEnd.{WorkEnd}
use Rattle.tree_search.specs.declared.stepping.WorkEnd.TheVariants as end
use Rattle.tree_search.specs.declared.stepping.Working.{Working}
use Rattle.tree_search.specs.declared.searching.Ways.{Ways}
use Rattle.tree_search.specs.declared.searching.Ways.TheVariants.{Own, Rays}
use Rattle.tree_search.specs.declared.stepping.Stepped.{Stepped}
use Rattle.tree_search.specs.declared.stepping.Stepped.TheVariants as stepped
use Rattle.tree_search.proofs.KeepLemmas.{keeps-after, keeps-cuts, added-model}

module _ (working : Working) (begin : PlainSearch) (job : Job) (vec : FoundCuts) (S : PlainSearch) (adds : AddsCuts begin vec.items S) (T : PlainSearch) where
  -- the pool stays
  cuts-stay : (basis : Basis) → KeepsOpen S job [] None basis T → T.cuts ≡ S.cuts
  cuts-stay basis keeps = keeps-cuts S job [] None basis T keeps ∙ ap (λ (X : PlainSearch). X.cuts) keeps.adds

  pub stop-pivots : (place : PivotPlace) → WorksBy working begin job (Pivots place.basis vec) → place.path ≡ Some job.region → place.cuts ≡ derivations_of (live_cuts 200 S.cuts) → KeepsOpen S job [] None (kept_basis S place.basis) T
      → Steps working job begin T (stepped.Stopped (why.Pivots place))
  stop-pivots place works path cuts keeps =
      let same : S.cuts ≡ T.cuts = sym (cuts-stay (kept_basis S place.basis) keeps) in (
        record {
          job = job;
          found = vec;
          works = works;
          path_is = path;
          cuts_are = cuts ∙ ap (λ l. derivations_of (live_cuts 200 l)) same;
          keeps = subst (λ l. KeepsOpen begin job vec.items None (basis_in_pool (live_places 200 0 l) place.basis) T) same (keeps-after begin vec.items S adds job None (kept_basis S place.basis) T keeps);
        },
        refl,
      )

  pub stop-step : (at : WideAt) → WorksBy working begin job (Wide at vec) → KeepsOpen S job [] None (kept_basis S at.basis) T → Steps working job begin T (stepped.Stopped (why.Wide at))
  stop-step at works keeps =
      let same : S.cuts ≡ T.cuts = sym (cuts-stay (kept_basis S at.basis) keeps) in (
        inl (record {
          job = job;
          found = vec;
          works = works;
          keeps = subst (λ l. KeepsOpen begin job vec.items None (basis_in_pool (live_places 200 0 l) at.basis) T) same (keeps-after begin vec.items S adds job None (kept_basis S at.basis) T keeps);
        }),
        refl,
      )

  pub stop-value : IsRayWay working.ways → (x : Point) (mult : Multipliers) (basis : Basis) (at : WideAt) → WorksBy working begin job (Done (PointAndClose x mult basis) vec) → IsValueAnswer S.model 1 x (Err at.step) → at.path ≡ Some job.region
      → at.cuts ≡ derivations_of (live_cuts 200 S.cuts) → at.basis ≡ basis_in_relaxation (live_places 200 0 S.cuts) basis → kept_basis S at.basis ≡ basis → KeepsOpen S job [] None (kept_basis S at.basis) T → Steps working job begin T (stepped.Stopped (why.Wide at))
  stop-value rays x mult basis at works wide path cuts basis_is back keeps =
      let same : S.cuts ≡ T.cuts = sym (cuts-stay (kept_basis S at.basis) keeps) in (
        inr (record {
          rays = rays;
          job = job;
          point = x;
          mult = mult;
          basis = basis;
          found = vec;
          works = works;
          wide = subst (λ M. IsValueAnswer M 1 x (Err at.step)) (added-model begin vec.items S adds) wide;
          path_is = path;
          cuts_are = cuts ∙ ap (λ l. derivations_of (live_cuts 200 l)) same;
          basis_is = basis_is ∙ ap (λ l. basis_in_relaxation (live_places 200 0 l) basis) same;
          keeps = keeps-after begin vec.items S adds job None basis T (subst (λ b. KeepsOpen S job [] None b T) back keeps);
        }),
        refl,
      )

-- ---- a result that is matched

-- beside a ray the work places what is not a point
pub other-placed : (ways : Ways) (done : NodeResult) → ((x : Point) (mult : Multipliers) (basis : Basis) → done ≡ PointAndClose x mult basis → ⊥) → ((point : Option Point) (basis : Basis) → done ≡ Keep point basis → ⊥) → IsPlacedBy ways done
other-placed Own done no_point no_keep = tt
other-placed (Rays Z) (Close mult farkas basis) no_point no_keep = tt
other-placed (Rays Z) (SplitAt col v mult basis) no_point no_keep = tt
other-placed (Rays Z) (PointAndClose x mult basis) no_point no_keep = absurd (no_point x mult basis refl)
other-placed (Rays Z) (Keep point basis) no_point no_keep = absurd (no_keep point basis refl)

module _ (working : Working) (job : Job) (S T : PlainSearch) (a b : NodeResult) (same : a ≡ b) where
  pub works-same : (begin : PlainSearch) × ((found : FoundCuts) × (WorksBy working begin job (Done a found) × AddsCuts begin found.items S)) → (begin : PlainSearch) × ((found : FoundCuts) × (WorksBy working begin job (Done b found) × AddsCuts begin found.items S))
  works-same (begin, (found, (works, adds))) = (begin, (found, (subst (λ r. WorksBy working begin job (Done r found)) same works, adds)))

  pub steps-same : {E : Type 0} (result : Result Stepped E) → IfOk result (λ s. (begin : PlainSearch) (found : FoundCuts) → WorksBy working begin job (Done b found) → AddsCuts begin found.items S → Steps working job begin T s)
      → IfOk result (λ s. (begin : PlainSearch) (found : FoundCuts) → WorksBy working begin job (Done a found) → AddsCuts begin found.items S → Steps working job begin T s)
  steps-same (Ok s) h = λ begin found works adds. h begin found (subst (λ r. WorksBy working begin job (Done r found)) same works) adds
  steps-same (Err e) h = tt

-- ---- what the work came to, matched

module _ (working : Working) (job : Job) (S T : PlainSearch) where
  abbrev pub WasWorked : WorkEnd → Type 0
  WasWorked came = (begin : PlainSearch) × ((found : FoundCuts) × (WorksBy working begin job (worked_with came found) × AddsCuts begin found.items S))

  abbrev pub StepsFrom : WorkEnd → Stepped → Type 0
  StepsFrom came s = (begin : PlainSearch) (found : FoundCuts) → WorksBy working begin job (worked_with came found) → AddsCuts begin found.items S → Steps working job begin T s

  pub end-works : (a b : WorkEnd) → a ≡ b → WasWorked a → WasWorked b
  end-works a b same h = subst WasWorked same h

  pub end-steps : {E : Type 0} (a b : WorkEnd) → a ≡ b → (result : Result Stepped E) → IfOk result (StepsFrom b) → IfOk result (StepsFrom a)
  end-steps a b same result h = subst (λ came. IfOk result (StepsFrom came)) (sym same) h

-- ---- a step, from the search that was worked

-- whatever a call that failed answers
pub on_err : {A E : Type 0} (result : Result A E) (P : Type 0) → P → OnErr result P
on_err (Ok a) P h = tt
on_err (Err e) P h = h

module _ (working : Working) (job : Job) (of : FoundCuts → Worked) (begin : PlainSearch) (vec : FoundCuts) (works : WorksBy working begin job (of vec)) (S : PlainSearch) (adds : AddsCuts begin vec.items S) (T : PlainSearch) where
  pub step-since : {E : Type 0} (result : Result Stepped E) → IfOk result (λ s. (from : PlainSearch) (found : FoundCuts) → WorksBy working from job (of found) → AddsCuts from found.items S → Steps working job from T s) → IfOk result (λ s. Steps working job begin T s)
  step-since (Ok s) h = h begin vec works adds
  step-since (Err e) h = tt

-- all of the cuts are some of them
all-some : (S : PlainSearch) (ds : List Derivation) (T : PlainSearch) → AddsCuts S ds T → AddsSome S ds T
all-some S ds T adds = (length ds, subst (λ es. AddsCuts S es T) (sym (take-length ds)) adds)

pub some-since : {A E : Type 0} (begin : PlainSearch) (ds : List Derivation) (S T : PlainSearch) → AddsCuts begin ds S → (result : Result A E) → OnErr result (T ≡ S) → OnErr result (AddsSome begin ds T)
some-since begin ds S T adds (Ok a) h = tt
some-since begin ds S T adds (Err e) h = all-some begin ds T (subst (AddsCuts begin ds) (sym h) adds)

-- the cuts of the work that comes to this
found-with : (came : WorkEnd) (found : FoundCuts) → cuts_found (worked_with came found) ≡ found.items
found-with (end.Done done) found = refl
found-with (end.Pivots basis) found = refl
found-with (end.Wide at) found = refl

-- without memory after the work, its first cuts may be there
pub leaves-after : {A E : Type 0} (working : Working) (S T : PlainSearch) (job : Job) (came : WorkEnd) (found : FoundCuts) → WorksBy working S job (worked_with came found)
    → (result : Result A E) → OnErr result (AddsSome S found.items T) → OnErr result (LeavesOf working.ways working.first.now working.pivots job S T)
leaves-after working S T job came found works (Ok a) h = tt
leaves-after working S T job came found works (Err e) h =
    inr (record { worked = worked_with came found; works = works; adds = subst (λ ds. AddsSome S ds T) (sym (found-with came found)) h })

-- ---- managers

-- where a manager stays, so does its search
pub kept-search : {A E : Type 0} (Q P : PlainManager) (result : Result A E) → OnErr result (Q ≡ P) → OnErr result (Q.search ≡ P.search)
kept-search Q P (Ok a) h = tt
kept-search Q P (Err e) h = ap (λ (R : PlainManager). R.search) h

-- the cuts before it leave who holds what
pub freed-since : {A E : Type 0} (w : ℕ) (P M Q : PlainManager) → M.held ≡ P.held → (result : Result A E) → OnOk result (IsFreed w M Q) → OnOk result (IsFreed w P Q)
freed-since w P M Q same (Ok a) h = h ∙ ap (λ l. held_on Q.search (set l w None)) same
freed-since w P M Q same (Err e) h = tt
