-- The first point beside a ray: it may be kept, and its leaf stays open.
use Rattle.std.specs.Prelude.{◌≡◌, ℕ, ◌++◌, Some, Ok}
use Rattle.std.proofs.Common.{refl, sym, ap, subst}
use Rattle.lp_model.specs.Program.{Point, value, IsFeasible}
use Rattle.lp_model.specs.Lawful.{IsLawful}
use Rattle.lp_model.specs.Regions.{InRegion}
use Rattle.lp_model.specs.declared.types.Basis.{Basis}
use Rattle.model_points.specs.Answers.{IsValueAnswer}
use Rattle.model_points.specs.Rays.{IsRay, IsUnbounded}
use Rattle.model_points.proofs.SamePointsLemmas.{same_points}
use Rattle.model_points.proofs.UnboundedLemmas.{unbounded}
use Rattle.leaf_dual.specs.Dual.{Multipliers}
use Rattle.branch_tree.specs.Numbered.{IsNumbered}
use Rattle.branch_tree.specs.declared.node.Job.{Job}
use Rattle.branch_tree.specs.declared.node.NodeResult.TheVariants.{PointAndClose, Keep}
use Rattle.sound_searches.specs.declared.taken.Taken.{Taken}
use Rattle.sound_searches.specs.declared.taken.Taken.TheVariants.{Kept}
use Rattle.sound_searches.specs.Placing.{Takes, TakesOpen}
use Rattle.sound_searches.specs.Free.{IsHeldJob}
use Rattle.search_parts.specs.Lists.{IsBasis}
use Rattle.search_parts.specs.Points.{IsKeepable}
use Rattle.sound_searches.specs.Pool.{AddsCuts}
use Rattle.sound_searches.specs.Sound.{PlainSearch, formulation_of, IsSound}
use Rattle.node_solve.specs.Rounds.{IsWorked}
use Rattle.node_solve.specs.declared.working.Worked.TheVariants.{Done}
use Rattle.node_solve.proofs.AddedLemmas.{more-cuts}
use Rattle.node_solve.proofs.TakenLemmas.{IsPointIn, done_point}
use Rattle.tree_search.specs.Steps.{FoundCuts, work_next, IsWayFor, IsRayWay}
use Rattle.tree_search.specs.Room.{IsWorkedRegion}
use Rattle.tree_search.specs.declared.stepping.Stepped.TheVariants as stepped
use Rattle.tree_search.specs.private.Stepping.{IsReady, WorksBy, Steps}
use Rattle.tree_search.specs.declared.searching.Ways.{Ways}
use Rattle.tree_search.specs.declared.searching.Ways.TheVariants.{Own, Rays}
use Rattle.tree_search.specs.declared.stepping.Working.{Working}
use Rattle.tree_search.proofs.JobLemmas.{IsWorkedBy, worked-by, job-region, region-same}
use Rattle.tree_search.proofs.KeepLemmas.{job-after, keeps-after, point-taken, point-open}
use Rattle.tree_search.proofs.PlacedLemmas.{point-basis, point-inside}
use Rattle.tree_search.proofs.SameLemmas.{keepable-same}

-- a point of the work beside a ray: what is asked of it in the search's own model, and the ray
record IsRayPoint (S : PlainSearch) (job : Job) (x : Point) : Type 0 where
  keepable : IsKeepable S.model x
  inside : InRegion job.region x
  direction : Point
  ray : IsRay S.model direction

ray-point : (ways : Ways) (S : PlainSearch) → IsRayWay ways → IsWayFor S ways → (job : Job) → IsWorkedRegion S.model job.region → (first : Basis) (pivots : ℕ) (x : Point) → IsPointIn (work_next ways first pivots S job) x → IsValueAnswer S.model 1 x (Ok (value S.model 1 x)) → IsRayPoint S job x
ray-point Own S rays way job region first pivots x p v = absurd rays
ray-point (Rays Z) S rays way job region first pivots x p v = record {
  keepable = keepable-same S.model x (subst (λ M. IsKeepable M x) way.worked p.keepable) v;
  inside = point-inside (work_next (Rays Z) first pivots S job) (subst (λ M. IsWorkedRegion M job.region) (sym way.worked) (region-same S.model job.region region)).names x p;
  direction = way.direction;
  ray = way.ray;
}

module _ (working : Working) (begin : PlainSearch) (job : Job) (x : Point) (mult : Multipliers) (basis : Basis) (vec : FoundCuts) (works : WorksBy working begin job (Done (PointAndClose x mult basis) vec))
    (S : PlainSearch) (adds : AddsCuts begin vec.items S) (sound : IsSound S) (numbered : IsNumbered S.tree) (lawful : IsLawful S.model) (rays : IsRayWay working.ways) (ready : IsReady working S) where
  model-then : S.model ≡ begin.model
  model-then = ap (λ (X : PlainSearch). X.model) (more-cuts vec.items begin S adds).now

  way-then : IsWayFor begin working.ways
  way-then = by working.ways ready.ways
    where
      m : S ≡ record begin { cuts = begin.cuts ++ (more-cuts vec.items begin S adds).new }
      m = (more-cuts vec.items begin S adds).now

      by : (ways : Ways) → IsWayFor S ways → IsWayFor begin ways
      by Own h = tt
      by (Rays Z) h =
          let back = subst (λ (X : PlainSearch). IsWayFor X (Rays Z)) m h in
          record { worked = back.worked; direction = back.direction; ray = back.ray; none = back.none }

  job-now : IsHeldJob S job
  job-now = job-after begin vec.items S adds job works.held

  region-now : IsWorkedRegion S.model job.region
  region-now = job-region S sound job job-now

  pub there : IsBasis (formulation_of S) basis
  there =
      point-basis working.ways working.first.now working.pivots begin (subst (IsWorkedBy working.ways) model-then (worked-by S working.ways ready.ways)) job vec.items S adds
      (subst IsLawful model-then lawful) x mult basis vec refl works.worked_is

  module _ (v : IsValueAnswer S.model 1 x (Ok (value S.model 1 x))) (S' : PlainSearch) where
    point : IsRayPoint begin job x
    point =
        ray-point working.ways begin rays way-then job (subst (λ M. IsWorkedRegion M job.region) model-then region-now) working.first.now working.pivots x
        (done_point (work_next working.ways working.first.now working.pivots begin job) x mult basis vec works.worked_is).0
        (subst (λ M. IsValueAnswer M 1 x (Ok (value M 1 x))) model-then v)

    keepable-now : IsKeepable S.model x
    keepable-now = subst (λ M. IsKeepable M x) (sym model-then) point.keepable

    pub ray_point-taken : (taken : Taken) → Takes S job.id (Keep (Some x) basis) S' taken → taken ≡ Kept
    ray_point-taken taken takes = point-taken S sound numbered job job-now S' basis there x keepable-now taken takes

    pub ray_point-next : TakesOpen S job.id (Keep (Some x) basis) S' Kept → Steps working job begin S' stepped.Found
    ray_point-next takes = (
      record {
        rays = rays;
        job = job;
        point = x;
        mult = mult;
        basis = basis;
        found = vec;
        works = works;
        keeps =
            keeps-after begin vec.items S adds job (Some x) basis S'
            (point-open S sound numbered job job-now S' basis there x keepable-now point.direction (subst (λ M. IsRay M point.direction) (sym model-then) point.ray) region-now.names point.inside takes);
      },
      refl,
    )

-- the model is unbounded then
pub point-unbounded : (ways : Ways) (S : PlainSearch) → IsRayWay ways → IsWayFor S ways → (job : Job) (first : Basis) (pivots : ℕ) (x : Point) (mult : Multipliers) (basis : Basis) (vec : FoundCuts) → IsWorked (work_next ways first pivots S job) (Done (PointAndClose x mult basis) vec) → IsUnbounded S.model
point-unbounded Own S rays way job first pivots x mult basis vec worked = absurd rays
point-unbounded (Rays Z) S rays way job first pivots x mult basis vec worked =
    let keepable = (done_point (work_next (Rays Z) first pivots S job) x mult basis vec worked).0.keepable in
    unbounded S.model x way.direction (((same_points S.model).feasible x).0 (subst (λ M. IsFeasible M x) way.worked keepable.feasible.0)) way.ray
