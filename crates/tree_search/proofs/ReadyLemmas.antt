-- After a result was placed the search can be worked on as before.
use Rattle.std.specs.Prelude.{◌≡◌, ℕ, List}
use Rattle.std.proofs.Common.{sym, subst, ap, ◌∙◌}
use Rattle.lp_model.specs.declared.types.Basis.{Basis}
use Rattle.lp_model.specs.declared.types.Derivation.{Derivation}
use Rattle.model_points.specs.Rays.{IsRay, without_costs}
use Rattle.branch_tree.specs.declared.node.NodeResult.{NodeResult}
use Rattle.branch_tree.specs.declared.node.NodeResult.TheVariants.{Close, Split as SplitAt, PointAndClose, Keep}
use Rattle.sound_searches.specs.declared.taken.Taken.{Taken}
use Rattle.sound_searches.specs.declared.taken.Taken.TheVariants.{Stale, Refused, Reopened, Full, Closed, Split, Kept}
use Rattle.sound_searches.specs.Placing.{Takes}
use Rattle.sound_searches.specs.Pool.{AddsCuts}
use Rattle.sound_searches.specs.Sound.{PlainSearch}
use Rattle.search_counting.specs.Laws.{IsEffective}
use Rattle.dual_simplex.specs.SlackBases.{IsRootBasis}
use Rattle.node_solve.proofs.AddedLemmas.{more-cuts}
use Rattle.tree_search.specs.Steps.{worked_model, IsWayFor, IsPlacedBy, Places}
use Rattle.tree_search.specs.private.Stepping.{IsReady}
use Rattle.tree_search.specs.declared.searching.Ways.{Ways}
use Rattle.tree_search.specs.declared.searching.Ways.TheVariants.{Own, Rays}
use Rattle.tree_search.specs.declared.stepping.Working.{Working}

module _ (S : PlainSearch) (id : ℕ) (S' : PlainSearch) where
  -- a result that brings no point leaves the points
  points-same : (Z : _) (done : NodeResult) → IsPlacedBy (Rays Z) done → (taken : Taken) → IsEffective taken → Takes S id done S' taken → S'.points ≡ S.points
  points-same Z (Close mult farkas basis) by Stale effective h = absurd effective
  points-same Z (Close mult farkas basis) by Refused effective h = absurd effective
  points-same Z (Close mult farkas basis) by Reopened effective h = absurd effective
  points-same Z (Close mult farkas basis) by Full effective h = absurd effective
  points-same Z (Close mult farkas basis) by Closed effective h = ap (λ (T : PlainSearch). T.points) h.result_is.2
  points-same Z (Close mult farkas basis) by Split effective h = absurd h.result_is
  points-same Z (Close mult farkas basis) by Kept effective h = absurd effective
  points-same Z (SplitAt col v mult basis) by Stale effective h = absurd effective
  points-same Z (SplitAt col v mult basis) by Refused effective h = absurd effective
  points-same Z (SplitAt col v mult basis) by Reopened effective h = absurd effective
  points-same Z (SplitAt col v mult basis) by Full effective h = absurd effective
  points-same Z (SplitAt col v mult basis) by Closed effective h = absurd h.result_is
  points-same Z (SplitAt col v mult basis) by Split effective h = ap (λ (T : PlainSearch). T.points) h.result_is.2.1.1.1.1
  points-same Z (SplitAt col v mult basis) by Kept effective h = absurd effective
  points-same Z (PointAndClose x mult basis) by taken effective h = absurd by
  points-same Z (Keep point basis) by taken effective h = absurd by

way-after : (ways : Ways) (first : Basis) (pivots : ℕ) (S S' : PlainSearch) → S'.model ≡ S.model → Places ways first pivots S S' → IsWayFor S ways → IsWayFor S' ways
way-after Own first pivots S S' model places h = tt
way-after (Rays Z) first pivots S S' model places h = record {
  worked = h.worked ∙ ap without_costs (sym model);
  direction = h.direction;
  ray = subst (λ M. IsRay M h.direction) (sym model) h.ray;
  none = points-same places.mid places.job.id S' Z places.result places.by places.taken places.effective places.takes ∙ ap (λ (X : PlainSearch). X.points) (more-cuts places.found.items S places.mid places.adds).now ∙ h.none;
}

pub ready-after : (working : Working) (S S' : PlainSearch) → IsReady working S → S'.model ≡ S.model → Places working.ways working.first.now working.pivots S S' → IsReady working S'
ready-after working S S' ready model places = record {
  ways = way-after working.ways working.first.now working.pivots S S' model places ready.ways;
  first = subst (λ M. IsRootBasis (worked_model working.ways M) working.first.now) (sym model) ready.first;
}

-- nor do further cuts change that
way-added : (ways : Ways) (S : PlainSearch) (ds : List Derivation) (T : PlainSearch) → AddsCuts S ds T → IsWayFor S ways → IsWayFor T ways
way-added Own S ds T adds h = tt
way-added (Rays Z) S ds T adds h =
    subst (λ (X : PlainSearch). IsWayFor X (Rays Z)) (sym (more-cuts ds S T adds).now) (record { worked = h.worked; direction = h.direction; ray = h.ray; none = h.none })

pub ready-added : (working : Working) (S : PlainSearch) (ds : List Derivation) (T : PlainSearch) → AddsCuts S ds T → IsReady working S → IsReady working T
ready-added working S ds T adds ready = record {
  ways = way-added working.ways S ds T adds ready.ways;
  first = subst (λ M. IsRootBasis (worked_model working.ways M) working.first.now) (sym (ap (λ (X : PlainSearch). X.model) (more-cuts ds S T adds).now)) ready.first;
}
