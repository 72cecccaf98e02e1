-- What a search that goes on answers, and what is held of it.
use Rattle.std.specs.Prelude.{true, ◌+◌}
use Rattle.std.proofs.Common.{◌≡◌, ◌⊎◌, ℕ, ◌<◌, List, [], ◌∷◌, length, sym, ap, subst, refl, ◌∙◌, inl, inr, arith, Option, Some, None, Ok}
use Rattle.frac128.specs.Rational.{ℚ, floor}
use Rattle.frac128.specs.RationalOrder.{<ℚ-≤ℚ_trans}
use Rattle.frac128.proofs.Rounding.{floor-≤ℚ}
use Rattle.lp_model.specs.Program.{Program, Point, least_value, IsOptimum}
use Rattle.lp_model.specs.declared.types.Basis.{Basis}
use Rattle.lp_model.specs.declared.answers.StopWhy.{StopWhy}
use Rattle.lp_model.specs.declared.answers.StopWhy.TheVariants as stop
use Rattle.search_answers.specs.declared.answers.Answer.{Answer}
use Rattle.search_answers.specs.declared.answers.Answer.TheVariants.{Optimal, Within, Infeasible, Unbounded, Stopped, Memory}
use Rattle.model_points.specs.Rays.{IsRay, IsRayJudged, IsUnbounded}
use Rattle.model_points.proofs.UnboundedLemmas.{unbounded}
use Rattle.sound_searches.specs.Calls.{search_with_limit}
use Rattle.sound_searches.specs.Laws.{HasNoOpenLeaf}
use Rattle.search_parts.specs.Points.{target}
use Rattle.sound_searches.specs.Sound.{PlainSearch}
use Rattle.search_gaps.specs.Within.{AreLeavesWithin}
use Rattle.tree_search.specs.Within.{IsGapLimit, IsGapReached}
use Rattle.tree_search.specs.Steps.{HasOpenLeaf}
use Rattle.tree_search.proofs.DoneLemmas.{ends-at-once}
use Rattle.tree_search.specs.Extends.{Extends}
use Rattle.tree_search.specs.Search.{Ends, IsFinishedAnswer, IsAnswerAtEnd}
use Rattle.tree_search.specs.declared.searching.Ended.{Ended}
use Rattle.tree_search.specs.declared.searching.Ended.TheVariants as ended
use Rattle.tree_search.specs.declared.searching.Ways.{Ways}
use Rattle.tree_search.specs.declared.searching.Ways.TheVariants.{Own, Rays}
use Rattle.ray_phase.specs.Beginnings.{HasNoSlackBasis, FindsRay, IsRayStop, StopsBefore}
use Rattle.ray_phase.specs.declared.phase.RayAnswer.TheVariants as phase
use Rattle.tree_search.specs.Beginnings.{BeginsWith}
use Rattle.kept_env.specs.Env.{PlainEnv, IsHeld, with_answer}
use Rattle.tree_search.specs.Solves.{turn_order_of, Course, NothingOpen, StopsFirst, Searches, WantsBefore, WantsWithin, SaysUnbounded, HasRayFor, HasRayFrom}
use Rattle.kept_env.specs.Worked.{held_by, IsOldest, WorksEnv}
use Rattle.tree_search.specs.Truth.{HasEnded}
use Rattle.tree_search.specs.Warm.{Went, IsRayUntold, Resumes, BesidePoint, GoesOn, Warms, Still, SomeOpen, PlacesNone, PlacesNoResult, WarmsFrom}
use Rattle.tree_search.specs.declared.limits.Limits.{Limits}
use Rattle.ray_phase.proofs.BeginningLemmas.{dual_basis, is_ray, judged_ray}
use Rattle.ray_phase.proofs.NoRayLemmas.{no_ray_of}
use Rattle.ray_phase.proofs.OneRayLemmas.{one_ray}
use Rattle.sym_env.proofs.TruthLemmas.{open-not_none, told-oldest, course-oldest, IsFinishedKind, course-finished, course-points, HasGap, finished-gap, course-gap, unbounded-ended, held-so}

-- ---- kept points

pub no-points : (M : Program) (points : List Point) → target M points ≡ None → points ≡ []
no-points M [] h = refl
no-points M (x ∷ xs) h = absurd (cc)

pub some-points : (M : Program) (points : List Point) (t : _) → target M points ≡ Some t → 0 < length points
some-points M [] t h = absurd (cc)
some-points M (x ∷ xs) t h = omega arith

-- ---- from a search with an open leaf

pub without-point : (l : Limits) (begun : PlainSearch) (answer : Answer) (S : PlainSearch) → begun.points ≡ [] → Went l begun answer S → Resumes l begun answer S
without-point l begun answer S none went = GoesOn (λ some. let e = ap length none in absurd (omega (arith, some, e))) went

pub with-own : (l : Limits) (begun : PlainSearch) (answer : Answer) (S : PlainSearch) (first : Basis) → BeginsWith begun.model l.pivots Own first → Went l begun answer S → Resumes l begun answer S
with-own l begun answer S first begins went = GoesOn (λ some. inl (first, begins)) went

pub with-stop : (l : Limits) (begun : PlainSearch) (answer : Answer) (S : PlainSearch) (why : StopWhy) → HasNoSlackBasis begun.model → IsRayStop begun.model l.pivots why → Went l begun answer S → Resumes l begun answer S
with-stop l begun answer S why none stop went = GoesOn (λ some. inr (inl (none, (why, stop)))) went

pub with-none : (l : Limits) (begun : PlainSearch) (S : PlainSearch) → Went l begun Memory S → Resumes l begun Memory S
with-none l begun S went = GoesOn (λ some. inr (inr refl)) went

pub own-stop : (M : Program) (pivots : ℕ) (why : StopWhy) → HasNoSlackBasis M → IsRayStop M pivots why → StopsBefore M pivots why
own-stop M pivots why none stop = record { none = none; stop = inl stop }

-- ---- what is answered

places-none : (S : PlainSearch) (answer : Answer) → IsFinishedAnswer S 0 answer → PlacesNone answer
places-none S (Optimal v x m) told = told.1
places-none S (Within g v x m) told = absurd told
places-none S (Infeasible m) told = told.1
places-none S (Unbounded m) told = absurd told
places-none S (Stopped why m bound best) told = absurd told
places-none S Memory told = tt

pub finished-bounded : (S : PlainSearch) (answer : Answer) → IsFinishedAnswer S 0 answer → SaysUnbounded answer → ⊥
finished-bounded S (Optimal v x m) told u = u
finished-bounded S (Within g v x m) told u = u
finished-bounded S (Infeasible m) told u = u
finished-bounded S (Unbounded m) told u = told
finished-bounded S (Stopped why m bound best) told u = u
finished-bounded S Memory told u = u

pub finished-ended : (S : PlainSearch) (answer : Answer) → IsFinishedAnswer S 0 answer → HasEnded answer
finished-ended S (Optimal v x m) told = tt
finished-ended S (Within g v x m) told = absurd told
finished-ended S (Infeasible m) told = tt
finished-ended S (Unbounded m) told = absurd told
finished-ended S (Stopped why m bound best) told = absurd told
finished-ended S Memory told = tt

-- ---- beside a ray

-- an objective without end has no optimum
no-optimum : (M : Program) (x : Point) → IsUnbounded M → ¬ IsOptimum M x
no-optimum M x endless best =
    let below = endless.below (floor (least_value M 1 x)) in
    best.unbeaten below.0 below.1.0 (record { better = <ℚ-≤ℚ_trans below.1.1 (floor-≤ℚ (least_value M 1 x)) })

finished-beside : (S : PlainSearch) (answer : Answer) → 0 < length S.points → ((d : Point) × IsRay S.model d) → IsFinishedAnswer S 0 answer → (answer ≡ Unbounded 0) ⊎ (answer ≡ Memory)
finished-beside S (Optimal v x m) some ray told = absurd (no-optimum S.model x (unbounded S.model x ray.0 told.0.optimum.feasible ray.1) told.0.optimum)
finished-beside S (Within g v x m) some ray told = absurd told
finished-beside S (Infeasible m) some ray told = let none = ap length told.0.no_point in absurd (omega (arith, some, none))
finished-beside S (Unbounded m) some ray told = absurd told
finished-beside S (Stopped why m bound best) some ray told = absurd told
finished-beside S Memory some ray told = inr refl

-- the ray phase that finds a ray does not stop
ray-not-stop : (M : Program) (pivots : ℕ) (why : StopWhy) → FindsRay M pivots → ¬ IsRayStop M pivots why
ray-not-stop M pivots stop.Nodes found h = h
ray-not-stop M pivots stop.Tree found h = h
ray-not-stop M pivots (stop.Pivots place) (d, found) h =
    let e : phase.Ray d ≡ phase.Pivots place.basis = one_ray M pivots (phase.Ray d) (phase.Pivots place.basis) (λ k. cc) (λ k. cc) found h.1.1 in cc
ray-not-stop M pivots (stop.Wide at_) (d, found) h = let e : phase.Ray d ≡ phase.Wide at_ = one_ray M pivots (phase.Ray d) (phase.Wide at_) (λ k. cc) (λ k. cc) found h in cc

untold-beside : (M : Program) (pivots : ℕ) (answer : Answer) → FindsRay M pivots → IsRayUntold M pivots answer → (answer ≡ Unbounded 0) ⊎ (answer ≡ Memory)
untold-beside M pivots answer (d, found) (inl (first, inl slack)) = absurd (no_ray_of M first d (inr slack) (is_ray M pivots d found))
untold-beside M pivots answer (d, found) (inl (first, inr dual)) = absurd (no_ray_of M first d (inl (dual_basis M pivots first dual.1)) (is_ray M pivots d found))
untold-beside M pivots answer found (inr (inl (none, (why, h)))) = absurd (ray-not-stop M pivots why found h)
untold-beside M pivots answer found (inr (inr is)) = inr is

-- ---- within the gap already

-- an end without a result places none
no-result : (S : PlainSearch) (e : Ended) (n : ℕ) (answer : Answer) → IsAnswerAtEnd S e n answer → n ≡ 0 → PlacesNoResult answer
no-result S ended.Finished n (Optimal v x m) told none = told.1 ∙ none
no-result S ended.Finished n (Within g v x m) told none = absurd told
no-result S ended.Finished n (Infeasible m) told none = told.1 ∙ none
no-result S ended.Finished n (Unbounded m) told none = absurd told
no-result S ended.Finished n (Stopped why m bound best) told none = absurd told
no-result S ended.Finished n Memory told none = tt
no-result S (ended.Within g) n (Optimal v x m) told none = absurd told
no-result S (ended.Within g) n (Within h v x m) told none = told.2 ∙ none
no-result S (ended.Within g) n (Infeasible m) told none = absurd told
no-result S (ended.Within g) n (Unbounded m) told none = absurd told
no-result S (ended.Within g) n (Stopped why m bound best) told none = absurd told
no-result S (ended.Within g) n Memory told none = tt
no-result S ended.Unbounded n (Optimal v x m) told none = absurd told
no-result S ended.Unbounded n (Within g v x m) told none = absurd told
no-result S ended.Unbounded n (Infeasible m) told none = absurd told
no-result S ended.Unbounded n (Unbounded m) told none = told ∙ none
no-result S ended.Unbounded n (Stopped why m bound best) told none = absurd told
no-result S ended.Unbounded n Memory told none = absurd told
no-result S (ended.Stopped reason) n (Optimal v x m) told none = absurd told
no-result S (ended.Stopped reason) n (Within g v x m) told none = absurd told
no-result S (ended.Stopped reason) n (Infeasible m) told none = absurd told
no-result S (ended.Stopped reason) n (Unbounded m) told none = absurd told
no-result S (ended.Stopped reason) n (Stopped why m bound best) told none = told.1 ∙ none
no-result S (ended.Stopped reason) n Memory told none = tt

-- a search that found a point beside a ray placed a result
ends-late : (ways : Ways) (first : Basis) (l : Limits) (n : ℕ) (old new : PlainSearch) (e : Ended) → Ends ways first (turn_order_of l) l.nodes l.pivots n old new e → e ≡ ended.Unbounded → n ≡ 0 → ⊥
ends-late ways first l n old new ended.Finished ends is none = cc
ends-late ways first l n old new (ended.Within g) ends is none = cc
ends-late ways first l n old new ended.Unbounded ends is none = let counted : n ≡ ends.before + 1 = ends.counted in omega (arith, counted, none)
ends-late ways first l n old new (ended.Stopped reason) ends is none = cc

-- beside a ray a search with a point is not worked
no-rays : (l : Limits) (ways : Ways) (first : Basis) (begun S : PlainSearch) (e : Ended) (n : ℕ) (answer : Answer) → Ends ways first (turn_order_of l) l.nodes l.pivots n begun S e → IsAnswerAtEnd S e n answer → (answer ≡ Unbounded 0) ⊎ (answer ≡ Memory) → answer ≡ Memory
no-rays l ways first begun S e n answer ends told (inr is) = is
no-rays l ways first begun S e n answer ends told (inl is) =
    let there : IsAnswerAtEnd S e n (Unbounded 0) = subst (IsAnswerAtEnd S e n) is told in
    let at : e ≡ ended.Unbounded = unbounded-ended S e n (Unbounded 0) there tt in
    let none : 0 ≡ n = subst (λ f. IsAnswerAtEnd S f n (Unbounded 0)) at there in
    absurd (ends-late ways first l n begun S e ends at (sym none))

module _ (l : Limits) (begun : PlainSearch) (answer : Answer) (S : PlainSearch) where
  warms-gap : Warms l begun answer S → HasGap l S answer
  warms-gap (Still none kept told) = subst (λ T. HasGap l T answer) (sym kept) (finished-gap l begun answer 0 told)
  warms-gap (SomeOpen some (BesidePoint point d none found kept is)) = subst (HasGap l S) (sym is) tt
  warms-gap (SomeOpen some (GoesOn untold went)) = course-gap begun.model l begun answer S went.course

  searched-within : (g : ℚ) → l.gap ≡ Some g → HasOpenLeaf begun → AreLeavesWithin begun g → (0 < length begun.points → IsRayUntold begun.model l.pivots answer) → 0 < length begun.points
      → (ways : Ways) (first : Basis) → BeginsWith begun.model l.pivots ways first → (e : Ended) (n : ℕ) → Ends ways first (turn_order_of l) l.nodes l.pivots n begun S e → IsAnswerAtEnd S e n answer
      → (answer ≡ Memory) ⊎ (PlacesNoResult answer × (S ≡ begun))
  searched-within g asked left close untold some Own first b e n ends told =
      let done : IsGapReached Own l.gap begun = subst (λ gap. IsGapReached Own gap begun) (sym asked) (left, close) in
      let once = ends-at-once Own first (turn_order_of l) l.nodes l.pivots begun done n S e ends in
      inr (no-result S e n answer told once.1, once.0)
  searched-within g asked left close untold some (Rays Z) first b e n ends told =
      inl (no-rays l (Rays Z) first begun S e n answer ends told (untold-beside begun.model l.pivots answer b.has_ray (untold some)))

  course-within : (g : ℚ) → l.gap ≡ Some g → HasOpenLeaf begun → AreLeavesWithin begun g → (0 < length begun.points → IsRayUntold begun.model l.pivots answer) → 0 < length begun.points → Course begun.model l begun answer S
      → (answer ≡ Memory) ⊎ (PlacesNoResult answer × (S ≡ begun))
  course-within g asked left close untold some (NothingOpen none kept is) = absurd (open-not_none begun left none)
  course-within g asked left close untold some (StopsFirst left' why s kept told) = inr (no-result S (ended.Stopped why) 0 answer told refl, kept)
  course-within g asked left close untold some (Searches left' ways first b e finds told) = searched-within g asked left close untold some ways first b e.ended e.results finds.ends told
  course-within g asked left close untold some (WantsBefore kept is) = inl is
  course-within g asked left close untold some (WantsWithin ways first b gives is) = inl is

  warms-within : (g : ℚ) → l.gap ≡ Some g → HasOpenLeaf begun → AreLeavesWithin begun g → Warms l begun answer S → (answer ≡ Memory) ⊎ (PlacesNoResult answer × (S ≡ begun))
  warms-within g asked left close (Still none kept told) = absurd (open-not_none begun left none)
  warms-within g asked left close (SomeOpen left' (BesidePoint point d none found kept is)) = inr (subst PlacesNoResult (sym is) refl, kept)
  warms-within g asked left close (SomeOpen left' (GoesOn untold went)) =
      course-within g asked left close untold (some-points begun.model begun.points close.is.best close.is.best_is) went.course

  warms-oldest : Warms l begun answer S → IsOldest S answer
  warms-oldest (Still none kept told) = subst (λ T. IsOldest T answer) (sym kept) (told-oldest begun ended.Finished 0 answer told)
  warms-oldest (SomeOpen some (BesidePoint point d none found kept is)) = subst (IsOldest S) (sym is) tt
  warms-oldest (SomeOpen some (GoesOn untold went)) = course-oldest begun.model l begun answer S went.course

  warms-finished : Warms l begun answer S → IsFinishedKind answer → HasNoOpenLeaf S
  warms-finished (Still none kept told) kind = subst HasNoOpenLeaf (sym kept) none
  warms-finished (SomeOpen some (BesidePoint point d none found kept is)) kind = absurd (subst IsFinishedKind is kind)
  warms-finished (SomeOpen some (GoesOn untold went)) kind = course-finished begun.model l begun answer S went.course kind

  warms-points : Warms l begun answer S → SaysUnbounded answer → 0 < length S.points
  warms-points (Still none kept told) u = absurd (finished-bounded begun answer told u)
  warms-points (SomeOpen some (BesidePoint point d none found kept is)) u = subst (λ (T : PlainSearch). 0 < length T.points) (sym kept) point
  warms-points (SomeOpen some (GoesOn untold went)) u = course-points begun.model l begun answer S went.course u

  warms-again : Warms l begun answer S → HasNoOpenLeaf begun → PlacesNone answer × (S ≡ begun)
  warms-again (Still none kept told) closed = (places-none begun answer told, kept)
  warms-again (SomeOpen some how) closed = absurd (open-not_none begun some closed)

  -- a ray beside a kept point leaves nothing to place
  warms-beside : Warms l begun answer S → 0 < length begun.points → FindsRay begun.model l.pivots → (answer ≡ Unbounded 0) ⊎ (answer ≡ Memory)
  warms-beside (Still none kept told) some found = finished-beside begun answer some (found.0, is_ray begun.model l.pivots found.0 found.1) told
  warms-beside (SomeOpen some_open (BesidePoint point d none found kept is)) some ray = inl is
  warms-beside (SomeOpen some_open (GoesOn untold went)) some found = untold-beside begun.model l.pivots answer found (untold some)

  pub warms-held : IsGapLimit l.gap → (direction : Option Point) → Warms l begun answer S → S.model ≡ begun.model → HasRayFor begun.model l.pivots answer direction → IsHeld (Some S) (held_by answer direction)
  warms-held lawful direction how model has =
      held-so l lawful S answer direction (warms-finished how)
      (λ u d is. record {
        point = warms-points how u;
        is_ray = subst (λ N. IsRayJudged N d (Ok true)) (sym model) (judged_ray begun.model l.pivots d (subst (HasRayFor begun.model l.pivots answer) is has));
      })
      (warms-gap how)

-- another limit on the tree leaves the leaves
open-limited : (S : PlainSearch) (n : ℕ) → HasOpenLeaf S → HasOpenLeaf (search_with_limit S n)
open-limited S n (id, (path, h)) = (id, (path, record { kept = h.kept; leaf = h.leaf; state = h.state }))

close-limited : (S : PlainSearch) (n : ℕ) (g : ℚ) → AreLeavesWithin S g → AreLeavesWithin (search_with_limit S n) g
close-limited S n g h = record { against = h.against; is = record { best = h.is.best; best_is = h.is.best_is; fits = h.is.fits; is = h.is.is }; close = h.close }

pub warms-env : (l : Limits) (old new : PlainEnv) (S T : PlainSearch) (answer : Answer) (direction : Option Point) → old.search ≡ Some S → Warms l (search_with_limit S l.tree) answer T → T.model ≡ S.model → Extends S.tree.root T.tree.root
    → HasRayFrom l S answer direction → new ≡ with_answer T (held_by answer direction) → WorksEnv (WarmsFrom l) (HasRayFrom l) old.search old (Ok answer) new
warms-env l old new S T answer direction there how model extends has is =
    subst (λ o. WorksEnv (WarmsFrom l) (HasRayFrom l) o old (Ok answer) new) (sym there)
    (record {
      search = T;
      found = record { warms = how; model = model; extends = extends; again = warms-again l (search_with_limit S l.tree) answer T how; within = λ g asked left close. warms-within l (search_with_limit S l.tree) answer T g asked (open-limited S l.tree left) (close-limited S l.tree g close) how; beside = warms-beside l (search_with_limit S l.tree) answer T how };
      oldest = warms-oldest l (search_with_limit S l.tree) answer T how;
      direction = direction;
      has_ray = has;
      env_is = is;
    })
