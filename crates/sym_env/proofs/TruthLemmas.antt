-- What a search answers is true of its model, whether it begins with a fresh root or goes on.
use Rattle.std.proofs.Common.{◌≡◌, ◌⊎◌, ℕ, suc, ◌<◌, ◌≤◌, List, [], ◌∷◌, ◌++◌, length, map, take, drop, sym, ap, subst, refl, ◌∙◌, inl, inr, arith, Option, Some, None, Ok}
use Rattle.std.specs.Prelude.{true, ◌+◌, ◌-◌, All, pos}
use Rattle.std.specs.List.{remove}
use Rattle.std.proofs.lemmas.List.{length-map, length-take, length-drop, length-append}
use Rattle.std.proofs.lemmas.List.Elements.{All-head}
use Rattle.frac128.specs.Rational.{ℚ, int, ◌≤ℚ◌}
use Rattle.lp_model.specs.Program.{Program, Point, IsOptimum, IsWithinGap, IsEmpty, value, least_value}
use Rattle.lp_model.specs.Lawful.{IsLawful}
use Rattle.lp_model.specs.declared.types.Basis.{Basis}
use Rattle.lp_model.specs.declared.answers.StopWhy.{StopWhy}
use Rattle.lp_model.specs.declared.answers.StopWhy.TheVariants as stop
use Rattle.search_answers.specs.declared.answers.Answer.{Answer}
use Rattle.search_answers.specs.declared.answers.Answer.TheVariants.{Optimal, Within, Infeasible, Unbounded, Stopped, Memory}
use Rattle.model_points.specs.Rays.{without_costs, IsRayJudged, IsUnbounded}
use Rattle.model_points.proofs.UnboundedLemmas.{unbounded}
use Rattle.ray_phase.specs.Answers.{IsRayAnswer}
use Rattle.ray_phase.specs.declared.phase.RayAnswer.TheVariants as phase
use Rattle.branch_tree.specs.Changes.{first_tree, with_limit}
use Rattle.branch_tree.specs.declared.node.Job.{Job}
use Rattle.branch_tree.specs.declared.node.LeafData.{LeafData}
use Rattle.branch_tree.specs.declared.node.LeafState.TheVariants.{IsOpen, IsClosed}
use Rattle.branch_tree.proofs.PathLaws.{each-found}
use Rattle.sound_searches.specs.Calls.{IsFresh, search_with_limit}
use Rattle.sound_searches.specs.Free.{IsHeldJob}
use Rattle.sound_searches.specs.Laws.{HasNoOpenLeaf, EmptyLaw}
use Rattle.search_parts.specs.Joining.{IsWorst, AddsPoint}
use Rattle.search_parts.specs.Points.{IsKeepable}
use Rattle.sound_searches.specs.Sound.{PlainSearch, IsSound}
use Rattle.sound_searches.proofs.OpenLemmas.{leaf_at}
use Rattle.search_counting.specs.Laws.{CapLaw, LeftLaw, TooSmallLaw}
use Rattle.search_counting.specs.Work.{whole_points, cap_of, HasRoomFor, work_of, splits_of, IsRoomy}
use Rattle.search_counting.proofs.CapLemmas.{splits-cap}
use Rattle.search_counting.proofs.RoomLemmas.{room-fewer}
use Rattle.search_gaps.specs.Within.{AreLeavesWithin}
use Rattle.tree_search.specs.Bounds.{IsBoundOf}
use Rattle.tree_search.specs.Within.{IsGapLimit}
use Rattle.tree_search.specs.Causes.{HasStopCause}
use Rattle.tree_search.specs.Laws.{StopBoundLaw}
use Rattle.tree_search.specs.Search.{StopsFor, FindsPoint, EndsWithin, Ends, IsLeft, IsAnswerAtEnd, IsFinishedAnswer, IsWithinAnswer, IsStoppedAnswer}
use Rattle.tree_search.specs.Steps.{HasOpenLeaf, StepAtNext, ValueAtNext}
use Rattle.tree_search.specs.Turns.{Order, Goes}
use Rattle.tree_search.specs.declared.searching.Ended.{Ended}
use Rattle.tree_search.specs.declared.searching.Ended.TheVariants as ended
use Rattle.tree_search.specs.declared.searching.Ways.{Ways}
use Rattle.ray_phase.specs.Beginnings.{IsRayStop, StopsBefore}
use Rattle.kept_env.specs.Env.{PlainEnv, HasPointAndRay, IsHeld, with_answer}
use Rattle.tree_search.specs.Solves.{turn_order_of, Course, NothingOpen, StopsFirst, Searches, WantsBefore, WantsWithin, SolvesModel, SolvesFrom, SaysUnbounded, HasRayFor, HasRayFrom}
use Rattle.kept_env.specs.Worked.{held_by, IsOldest, WorksEnv}
use Rattle.model_points.specs.Bounds.{IsBound, IsFoundValue}
use Rattle.tree_search.specs.Truth.{IsCount, IsEarlyBy, IsTrueBy, IsTrueAnswer, IsTrueOfKept}
use Rattle.tree_search.specs.Warm.{Resumes, BesidePoint, GoesOn, Warms, Still, SomeOpen}
use Rattle.tree_search.specs.declared.limits.Limits.{Limits}
use Rattle.ray_phase.proofs.BeginningLemmas.{is_ray, judged_ray}

-- the laws of searches that are used
pub record Laws : Type 0 where
  pub empty : EmptyLaw
  pub cap : CapLaw
  pub left : LeftLaw
  pub bound : StopBoundLaw

is-bound : StopBoundLaw → (S : PlainSearch) (bound : Option ℚ) → IsBoundOf S bound → IsBound S.model bound
is-bound law S None h = tt
is-bound law S (Some b) h = λ x feasible. law S b x h feasible

-- an open leaf is not closed
pub open-not_none : (S : PlainSearch) → HasOpenLeaf S → HasNoOpenLeaf S → ⊥
open-not_none S some none =
    let here = some.1.1 in
    let l = leaf_at S.tree.root some.0 some.1.0 here.kept here.leaf in
    let closed : l.0.kept.state ≡ IsClosed = (each-found (λ p k. k.kept.state ≡ IsClosed) some.0 [] S.tree.root (some.1.0, l.0) none l.1.0).0 in
    let state : l.0.kept.state ≡ IsOpen = ap (λ (k : LeafData). k.state) l.1.1 ∙ here.state in
    let e : IsOpen ≡ IsClosed = sym state ∙ closed in cc

module _ (laws : Laws) (l : Limits) (fresh : PlainSearch) (lawful : IsLawful fresh.model) (sound : IsSound fresh) (Small : Type 0) (small : (¬ IsRoomy fresh) → Small) where
  at_most : work_of fresh ≤ cap_of fresh.model
  at_most = laws.cap fresh.model fresh.tree.root lawful sound.tree.lawful

  some_left : (S : PlainSearch) → IsSound S → S.model ≡ fresh.model → (job : Job) → IsHeldJob S job → 1 ≤ work_of S
  some_left S sounds same job held = laws.left S job.id job.region held.kept sounds (subst IsLawful (sym same) lawful) held.leaf held.state

  below_cap : (n : ℕ) (mid : PlainSearch) (ways : Ways) (first : Basis) → Goes ways first l.pivots (turn_order_of l) n fresh mid → (job : Job) → IsHeldJob mid job → n < cap_of fresh.model
  below_cap n mid ways first goes job held =
      let most = at_most in
      let one = some_left mid goes.sound goes.model job held in
      let all = goes.work in
      omega arith

  first_below : HasOpenLeaf fresh → 0 < cap_of fresh.model
  first_below h =
      let most = at_most in
      let one = laws.left fresh h.0 h.1.0 h.1.1.kept sound lawful h.1.1.leaf h.1.1.state in
      omega arith

  early : (S : PlainSearch) (ways : Ways) (first : Basis) (why : StopWhy) (n : ℕ) → StopsFor ways first (turn_order_of l) l.nodes l.pivots n fresh S why → HasStopCause fresh S.cuts ways first l.nodes l.pivots (ended.Stopped why) → IsEarlyBy Small fresh.model l why n
  early S ways first stop.Nodes n ends cause =
      let most = at_most in
      let all = ends.all in
      (all, omega arith)
  early S ways first stop.Tree n ends cause =
      (ends.below_limit, (below_cap n ends.mid ways first ends.goes ends.here.job ends.here.works.held, small cause))
  early S ways first (stop.Pivots place) n ends cause =
      let below = ends.below_limit in
      (omega arith, below_cap n ends.mid ways first ends.goes ends.here.job ends.here.works.held)
  early S ways first (stop.Wide at_) n ends cause =
      let below = ends.below_limit in
      (omega arith, by ends.here)
    where
      by : StepAtNext ways first l.pivots ends.mid S at_ ⊎ ValueAtNext ways first l.pivots ends.mid S at_ → n < cap_of fresh.model
      by (inl h) = below_cap n ends.mid ways first ends.goes h.job h.works.held
      by (inr h) = below_cap n ends.mid ways first ends.goes h.job h.works.held

  count : (n m : ℕ) → m ≡ n → n ≤ l.nodes → n ≤ cap_of fresh.model → IsCount fresh.model l m
  count n m same limit cap = record { within_limit = subst (λ k. k ≤ l.nodes) (sym same) limit; within_cap = subst (λ k. k ≤ cap_of fresh.model) (sym same) cap }

  stopped : (S : PlainSearch) (why : StopWhy) (n : ℕ) (answer : Answer) → S.model ≡ fresh.model → IsEarlyBy Small fresh.model l why n → IsStoppedAnswer S why n answer → IsTrueBy Small fresh.model l answer
  stopped S why n (Optimal v x m) same is told = absurd told
  stopped S why n (Within g v x m) same is told = absurd told
  stopped S why n (Infeasible m) same is told = absurd told
  stopped S why n (Unbounded m) same is told = absurd told
  stopped S why n (Stopped reason m bound best) same is told = (
    (subst (λ N. IsBound N bound) same (is-bound laws.bound S bound told.2.bound_is), subst (λ N. IsFoundValue N best) same told.2.found),
    subst (λ k. IsEarlyBy Small fresh.model l reason k) (sym told.1) (subst (λ r. IsEarlyBy Small fresh.model l r n) (sym told.0) is),
  )
  stopped S why n Memory same is told = tt

  -- a leaf is open yet, so that the search had not as many results as the cap
  left-below : (n : ℕ) (S : PlainSearch) (ways : Ways) (first : Basis) → Goes ways first l.pivots (turn_order_of l) n fresh S → HasOpenLeaf S → n < cap_of fresh.model
  left-below n S ways first goes h =
      let most = at_most in
      let one : 1 ≤ work_of S = laws.left S h.0 h.1.0 h.1.1.kept goes.sound (subst IsLawful (sym goes.model) lawful) h.1.1.leaf h.1.1.state in
      let all : n + work_of S ≤ work_of fresh = goes.work in
      omega arith

  within : (S : PlainSearch) (ways : Ways) (first : Basis) (g : ℚ) (n : ℕ) (answer : Answer) → S.model ≡ fresh.model → EndsWithin ways first (turn_order_of l) l.pivots n g fresh S → n ≤ l.nodes → IsWithinAnswer S g n answer → IsTrueBy Small fresh.model l answer
  within S ways first g n (Optimal v x m) same ends limit told = absurd told
  within S ways first g n (Within h v x m) same ends limit told = (
    (
      ends.asked ∙ ap Some (sym told.0),
      (subst (λ N. IsWithinGap N h x) same (subst (λ k. IsWithinGap S.model k x) (sym told.0) told.1.within), told.1.value ∙ ap (λ N. value N 1 x) same),
    ),
    (subst (λ k. k ≤ l.nodes) (sym told.2) limit, subst (λ k. k < cap_of fresh.model) (sym told.2) (left-below n S ways first ends.goes told.1.left)),
  )
  within S ways first g n (Infeasible m) same ends limit told = absurd told
  within S ways first g n (Unbounded m) same ends limit told = absurd told
  within S ways first g n (Stopped why m bound best) same ends limit told = absurd told
  within S ways first g n Memory same ends limit told = tt

  searched : (S : PlainSearch) (ways : Ways) (first : Basis) (e : Ended) (n : ℕ) (answer : Answer) → S.model ≡ fresh.model → Ends ways first (turn_order_of l) l.nodes l.pivots n fresh S e → HasStopCause fresh S.cuts ways first l.nodes l.pivots e
      → n ≤ l.nodes → n ≤ cap_of fresh.model → IsAnswerAtEnd S e n answer → IsTrueBy Small fresh.model l answer
  searched S ways first ended.Finished n (Optimal v x m) same ends cause limit cap told =
      ((subst (λ N. IsOptimum N x) same told.0.optimum, told.0.value ∙ ap (λ N. value N 1 x) same), count n m told.1 limit cap)
  searched S ways first ended.Finished n (Within g v x m) same ends cause limit cap told = absurd told
  searched S ways first ended.Finished n (Infeasible m) same ends cause limit cap told = (subst IsEmpty same told.0.none, count n m told.1 limit cap)
  searched S ways first ended.Finished n (Unbounded m) same ends cause limit cap told = absurd told
  searched S ways first ended.Finished n (Stopped why m bound best) same ends cause limit cap told = absurd told
  searched S ways first ended.Finished n Memory same ends cause limit cap told = tt
  searched S ways first (ended.Within g) n answer same ends cause limit cap told = within S ways first g n answer same ends limit told
  searched S ways first ended.Unbounded n (Optimal v x m) same ends cause limit cap told = absurd told
  searched S ways first ended.Unbounded n (Within g v x m) same ends cause limit cap told = absurd told
  searched S ways first ended.Unbounded n (Infeasible m) same ends cause limit cap told = absurd told
  searched S ways first ended.Unbounded n (Unbounded m) same ends cause limit cap told = (ends.unbounded, count n m told limit cap)
  searched S ways first ended.Unbounded n (Stopped why m bound best) same ends cause limit cap told = absurd told
  searched S ways first ended.Unbounded n Memory same ends cause limit cap told = tt
  searched S ways first (ended.Stopped why) n answer same ends cause limit cap told = stopped S why n answer same (early S ways first why n ends cause) told

  ray_early : (why : StopWhy) → HasOpenLeaf fresh → (M : Program) → IsRayStop M l.pivots why → IsEarlyBy Small fresh.model l why 0
  ray_early stop.Nodes some M h = absurd h
  ray_early stop.Tree some M h = absurd h
  ray_early (stop.Pivots place) some M h = (omega arith, first_below some)
  ray_early (stop.Wide at_) some M h = (omega arith, first_below some)

  stopped_early : (why : StopWhy) → HasOpenLeaf fresh → StopsBefore fresh.model l.pivots why → IsEarlyBy Small fresh.model l why 0
  stopped_early why some s = elim s.stop [ inl h ↦ ray_early why some fresh.model h | inr h ↦ ray_early why some (without_costs fresh.model) h.1 ]

  true-course : (HasNoOpenLeaf fresh → fresh.points ≡ []) → (answer : Answer) (S : PlainSearch) → S.model ≡ fresh.model → Course fresh.model l fresh answer S → IsTrueBy Small fresh.model l answer
  true-course no_point answer S same (NothingOpen none kept is) =
      subst (IsTrueBy Small fresh.model l) (sym is) (laws.empty fresh sound none (no_point none), record { within_limit = omega arith; within_cap = omega arith })
  true-course no_point answer S same (StopsFirst some why s kept told) = stopped S why 0 answer same (stopped_early why some s) told
  true-course no_point answer S same (Searches some ways first b e finds told) = searched S ways first e.ended e.results answer same finds.ends finds.cause finds.within_limit finds.within_cap told
  true-course no_point answer S same (WantsBefore kept is) = subst (IsTrueBy Small fresh.model l) (sym is) tt
  true-course no_point answer S same (WantsWithin ways first b gives is) = subst (IsTrueBy Small fresh.model l) (sym is) tt

  -- an answer that is told where no leaf is open and nothing is placed
  finished : (answer : Answer) → IsFinishedAnswer fresh 0 answer → IsTrueBy Small fresh.model l answer
  finished (Optimal v x m) told = ((told.0.optimum, told.0.value), count 0 m told.1 (omega arith) (omega arith))
  finished (Within g v x m) told = absurd told
  finished (Infeasible m) told = (told.0.none, count 0 m told.1 (omega arith) (omega arith))
  finished (Unbounded m) told = absurd told
  finished (Stopped why m bound best) told = absurd told
  finished Memory told = tt

  -- beside a ray a kept point shows that the objective has no end
  no-end : 0 < length fresh.points → (d : Point) → IsRayAnswer fresh.model l.pivots (phase.Ray d) → IsTrueBy Small fresh.model l (Unbounded 0)
  no-end some d found = (by fresh.points sound.points some, record { within_limit = omega arith; within_cap = omega arith })
    where
      by : (points : List Point) → All (IsKeepable fresh.model) points → 0 < length points → IsUnbounded fresh.model
      by [] all h = absurd (omega arith)
      by (x ∷ xs) all h = unbounded fresh.model x d (All-head (IsKeepable fresh.model) x xs all).feasible.0 (is_ray fresh.model l.pivots d found)

  true-resumed : HasOpenLeaf fresh → (answer : Answer) (S : PlainSearch) → Resumes l fresh answer S → IsTrueBy Small fresh.model l answer
  true-resumed open_leaf answer S (BesidePoint some d none found kept is) = subst (IsTrueBy Small fresh.model l) (sym is) (no-end some d found)
  true-resumed open_leaf answer S (GoesOn untold went) = true-course (λ none. absurd (open-not_none fresh open_leaf none)) answer S went.model went.course

  pub true-warmed : (answer : Answer) (S : PlainSearch) → Warms l fresh answer S → IsTrueBy Small fresh.model l answer
  true-warmed answer S (Still none kept told) = finished answer told
  true-warmed answer S (SomeOpen open_leaf how) = true-resumed open_leaf answer S how

pub true-answer : Laws → TooSmallLaw → (l : Limits) (M : Program) (old : PlainSearch) (answer : Answer) (S : PlainSearch) → IsLawful M → SolvesModel M l old answer S → IsTrueAnswer M l answer
true-answer laws too_small l M old answer S lawful (inr wants) = subst (IsTrueAnswer M l) (sym wants.wants) tt
true-answer laws too_small l M old answer S lawful (inl s) =
    let same : s.fresh.model ≡ M = s.begins.model in
    let own : IsLawful s.fresh.model = subst IsLawful (sym same) lawful in
    let begins : IsFresh s.fresh.model l.tree s.fresh = subst (λ N. IsFresh N l.tree s.fresh) (sym same) s.begins in
    subst (λ N. IsTrueAnswer N l answer) same
    (true-course laws l s.fresh own s.sound (¬ HasRoomFor (whole_points s.fresh.model - 1) (first_tree l.tree)) (too_small s.fresh.model l.tree s.fresh begins s.sound own)
    (λ none. begins.points) answer S (s.model ∙ sym same) (subst (λ N. Course N l s.fresh answer S) (sym same) s.course))

-- a search that goes on is too small where it has no room for the most splits
pub true-kept : Laws → (l : Limits) (old : PlainSearch) (answer : Answer) (S : PlainSearch) → IsLawful old.model → IsSound (search_with_limit old l.tree) → Warms l (search_with_limit old l.tree) answer S
    → IsTrueOfKept old l answer
true-kept laws l old answer S lawful sound how =
    let begun : PlainSearch = search_with_limit old l.tree in
    true-warmed laws l begun lawful sound (¬ HasRoomFor (whole_points old.model - 1) (with_limit old.tree l.tree))
    (λ unroomy room. unroomy (room-fewer begun.tree (whole_points old.model - 1) (splits_of begun) (splits-cap old.model old.tree.root lawful sound.tree.lawful) room))
    answer S how

-- ---- the oldest point of the best value

pub told-oldest : (S : PlainSearch) (e : Ended) (n : ℕ) (answer : Answer) → IsAnswerAtEnd S e n answer → IsOldest S answer
told-oldest S ended.Finished n (Optimal v x m) told = told.0.incumbent
told-oldest S ended.Unbounded n (Optimal v x m) told = absurd told
told-oldest S (ended.Within g) n (Optimal v x m) told = absurd told
told-oldest S (ended.Stopped why) n (Optimal v x m) told = absurd told
told-oldest S ended.Finished n (Within h v x m) told = absurd told
told-oldest S ended.Unbounded n (Within h v x m) told = absurd told
told-oldest S (ended.Within g) n (Within h v x m) told = told.1.incumbent
told-oldest S (ended.Stopped why) n (Within h v x m) told = absurd told
told-oldest S e n (Infeasible m) told = tt
told-oldest S e n (Unbounded m) told = tt
told-oldest S e n (Stopped why m bound best) told = tt
told-oldest S e n Memory told = tt

stop-oldest : (S : PlainSearch) (why : StopWhy) (answer : Answer) → IsStoppedAnswer S why 0 answer → IsOldest S answer
stop-oldest S why (Optimal v x m) told = absurd told
stop-oldest S why (Within g v x m) told = absurd told
stop-oldest S why (Infeasible m) told = tt
stop-oldest S why (Unbounded m) told = tt
stop-oldest S why (Stopped reason m bound best) told = tt
stop-oldest S why Memory told = tt

pub course-oldest : (M : Program) (l : Limits) (fresh : PlainSearch) (answer : Answer) (S : PlainSearch) → Course M l fresh answer S → IsOldest S answer
course-oldest M l fresh answer S (NothingOpen none kept is) = subst (IsOldest S) (sym is) tt
course-oldest M l fresh answer S (StopsFirst some why s kept told) = stop-oldest S why answer (told)
course-oldest M l fresh answer S (Searches some ways first b e finds told) = told-oldest S e.ended e.results answer told
course-oldest M l fresh answer S (WantsBefore kept is) = subst (IsOldest S) (sym is) tt
course-oldest M l fresh answer S (WantsWithin ways first b gives is) = subst (IsOldest S) (sym is) tt

pub solves-oldest : (M : Program) (l : Limits) (old : PlainSearch) (answer : Answer) (S : PlainSearch) → SolvesModel M l old answer S → IsOldest S answer
solves-oldest M l old answer S (inl s) = course-oldest M l s.fresh answer S s.course
solves-oldest M l old answer S (inr wants) = subst (IsOldest S) (sym wants.wants) tt

-- ---- what is held

-- with one more there are some
some-more : {A : Type 0} (xs : List A) (x : A) → 0 < length (xs ++ x ∷ [])
some-more xs x = let l = length-append xs (x ∷ []) in omega (arith, l)

-- and without the worst of more than 100 too
left-some : (M : Program) (all : List Point) (k : ℕ) → IsWorst (map (least_value M 1) all) (Some k) → 0 < length (remove all k)
left-some M all k worst =
    let size : length (map (least_value M 1) all) ≡ length all = length-map all (least_value M 1) in
    let many : 100 < length (map (least_value M 1) all) = worst.0 in
    let within : k < length (map (least_value M 1) all) = worst.1.within in
    omega (arith, length-append (take k all) (drop (suc k) all), length-take k all, length-drop (suc k) all, size, many, within)

adds-some : (M : Program) (points : List Point) (x : Point) (new : List Point) → AddsPoint M points x new → 0 < length new
adds-some M points x new (None, (worst, is)) = subst (λ (l : List Point). 0 < length l) (sym is) (some-more points x)
adds-some M points x new (Some k, (worst, is)) = subst (λ (l : List Point). 0 < length l) (sym is) (left-some M (points ++ x ∷ []) k worst)

-- the search that found a point beside a ray keeps one
points-some : (ways : Ways) (first : Basis) (order : Order) (nodes pivots n : ℕ) (old new : PlainSearch) → FindsPoint ways first order nodes pivots n old new → 0 < length new.points
points-some ways first order nodes pivots n old new finds =
    let here = finds.after.here in
    let kept = here.keeps.takes.result_is.2 in
    let mid = kept.0 in
    let adds : 0 < length mid.points = adds-some here.keeps.mid.model here.keeps.mid.points here.point mid.points kept.1.0.points in
    subst (λ (S : PlainSearch). 0 < length S.points) (sym kept.1.1.1.1) adds

abbrev pub IsFinishedKind : Answer → Type 0
IsFinishedKind (Optimal v x n) = Unit {0}
IsFinishedKind (Within g v x n) = ⊥
IsFinishedKind (Infeasible n) = Unit {0}
IsFinishedKind (Unbounded n) = ⊥
IsFinishedKind (Stopped why n bound best) = ⊥
IsFinishedKind Memory = ⊥

finished-left : (S : PlainSearch) (e : Ended) (n : ℕ) (answer : Answer) → IsLeft S e → IsAnswerAtEnd S e n answer → IsFinishedKind answer → HasNoOpenLeaf S
finished-left S ended.Finished n answer left told kind = left
finished-left S ended.Unbounded n (Optimal v x m) left told kind = absurd told
finished-left S ended.Unbounded n (Within g v x m) left told kind = absurd kind
finished-left S ended.Unbounded n (Infeasible m) left told kind = absurd told
finished-left S ended.Unbounded n (Unbounded m) left told kind = absurd kind
finished-left S ended.Unbounded n (Stopped why m bound best) left told kind = absurd kind
finished-left S ended.Unbounded n Memory left told kind = absurd kind
finished-left S (ended.Within g) n (Optimal v x m) left told kind = absurd told
finished-left S (ended.Within g) n (Within h v x m) left told kind = absurd kind
finished-left S (ended.Within g) n (Infeasible m) left told kind = absurd told
finished-left S (ended.Within g) n (Unbounded m) left told kind = absurd kind
finished-left S (ended.Within g) n (Stopped why m bound best) left told kind = absurd kind
finished-left S (ended.Within g) n Memory left told kind = absurd kind
finished-left S (ended.Stopped why) n (Optimal v x m) left told kind = absurd told
finished-left S (ended.Stopped why) n (Within g v x m) left told kind = absurd kind
finished-left S (ended.Stopped why) n (Infeasible m) left told kind = absurd told
finished-left S (ended.Stopped why) n (Unbounded m) left told kind = absurd kind
finished-left S (ended.Stopped why) n (Stopped reason m bound best) left told kind = absurd kind
finished-left S (ended.Stopped why) n Memory left told kind = absurd kind

stop-kind : (S : PlainSearch) (why : StopWhy) (answer : Answer) → IsStoppedAnswer S why 0 answer → IsFinishedKind answer → ⊥
stop-kind S why (Optimal v x m) told kind = told
stop-kind S why (Within g v x m) told kind = kind
stop-kind S why (Infeasible m) told kind = told
stop-kind S why (Unbounded m) told kind = kind
stop-kind S why (Stopped reason m bound best) told kind = kind
stop-kind S why Memory told kind = kind

pub stop-bounded : (S : PlainSearch) (why : StopWhy) (answer : Answer) (n : ℕ) → IsStoppedAnswer S why n answer → SaysUnbounded answer → ⊥
stop-bounded S why (Optimal v x m) n told u = u
stop-bounded S why (Within g v x m) n told u = u
stop-bounded S why (Infeasible m) n told u = u
stop-bounded S why (Unbounded m) n told u = told
stop-bounded S why (Stopped reason m bound best) n told u = u
stop-bounded S why Memory n told u = u

within-bounded : (S : PlainSearch) (g : ℚ) (answer : Answer) (n : ℕ) → IsWithinAnswer S g n answer → SaysUnbounded answer → ⊥
within-bounded S g (Optimal v x m) n told u = u
within-bounded S g (Within h v x m) n told u = u
within-bounded S g (Infeasible m) n told u = u
within-bounded S g (Unbounded m) n told u = told
within-bounded S g (Stopped reason m bound best) n told u = u
within-bounded S g Memory n told u = u

-- only a search that found a point beside a ray shows that the model is unbounded
pub unbounded-ended : (S : PlainSearch) (e : Ended) (n : ℕ) (answer : Answer) → IsAnswerAtEnd S e n answer → SaysUnbounded answer → e ≡ ended.Unbounded
unbounded-ended S ended.Finished n (Optimal v x m) told u = absurd u
unbounded-ended S ended.Finished n (Within g v x m) told u = absurd u
unbounded-ended S ended.Finished n (Infeasible m) told u = absurd u
unbounded-ended S ended.Finished n (Unbounded m) told u = absurd told
unbounded-ended S ended.Finished n (Stopped why m bound best) told u = absurd u
unbounded-ended S ended.Finished n Memory told u = absurd u
unbounded-ended S (ended.Within g) n answer told u = absurd (within-bounded S g answer n told u)
unbounded-ended S ended.Unbounded n answer told u = refl
unbounded-ended S (ended.Stopped why) n answer told u = absurd (stop-bounded S why answer n told u)

-- an answer within a gap: this gap was given, and all leaves are within it
abbrev pub HasGap : Limits → PlainSearch → Answer → Type 0
HasGap l S (Optimal v x n) = Unit {0}
HasGap l S (Within g v x n) = (l.gap ≡ Some g) × AreLeavesWithin S g
HasGap l S (Infeasible n) = Unit {0}
HasGap l S (Unbounded n) = Unit {0}
HasGap l S (Stopped why n bound best) = Unit {0}
HasGap l S Memory = Unit {0}

stop-gap : (l : Limits) (S : PlainSearch) (why : StopWhy) (answer : Answer) (n : ℕ) → IsStoppedAnswer S why n answer → HasGap l S answer
stop-gap l S why (Optimal v x m) n told = tt
stop-gap l S why (Within g v x m) n told = absurd told
stop-gap l S why (Infeasible m) n told = tt
stop-gap l S why (Unbounded m) n told = tt
stop-gap l S why (Stopped reason m bound best) n told = tt
stop-gap l S why Memory n told = tt

pub finished-gap : (l : Limits) (S : PlainSearch) (answer : Answer) (n : ℕ) → IsFinishedAnswer S n answer → HasGap l S answer
finished-gap l S (Optimal v x m) n told = tt
finished-gap l S (Within g v x m) n told = absurd told
finished-gap l S (Infeasible m) n told = tt
finished-gap l S (Unbounded m) n told = tt
finished-gap l S (Stopped why m bound best) n told = tt
finished-gap l S Memory n told = tt

unbounded-gap : (l : Limits) (S : PlainSearch) (answer : Answer) (n : ℕ) → IsAnswerAtEnd S ended.Unbounded n answer → HasGap l S answer
unbounded-gap l S (Optimal v x m) n told = tt
unbounded-gap l S (Within g v x m) n told = absurd told
unbounded-gap l S (Infeasible m) n told = tt
unbounded-gap l S (Unbounded m) n told = tt
unbounded-gap l S (Stopped why m bound best) n told = tt
unbounded-gap l S Memory n told = tt

within-gap : (l : Limits) (S : PlainSearch) (g : ℚ) (answer : Answer) (n : ℕ) → l.gap ≡ Some g → AreLeavesWithin S g → IsWithinAnswer S g n answer → HasGap l S answer
within-gap l S g (Optimal v x m) n asked close told = tt
within-gap l S g (Within h v x m) n asked close told = (asked ∙ ap Some (sym told.0), subst (AreLeavesWithin S) (sym told.0) close)
within-gap l S g (Infeasible m) n asked close told = tt
within-gap l S g (Unbounded m) n asked close told = tt
within-gap l S g (Stopped why m bound best) n asked close told = tt
within-gap l S g Memory n asked close told = tt

ended-gap : (l : Limits) (ways : Ways) (first : Basis) (fresh S : PlainSearch) (e : Ended) (n : ℕ) (answer : Answer) → Ends ways first (turn_order_of l) l.nodes l.pivots n fresh S e → IsLeft S e → IsAnswerAtEnd S e n answer → HasGap l S answer
ended-gap l ways first fresh S ended.Finished n answer ends left told = finished-gap l S answer n told
ended-gap l ways first fresh S (ended.Within g) n answer ends left told = within-gap l S g answer n ends.asked left.1 told
ended-gap l ways first fresh S ended.Unbounded n answer ends left told = unbounded-gap l S answer n told
ended-gap l ways first fresh S (ended.Stopped why) n answer ends left told = stop-gap l S why answer n told

module _ (M : Program) (l : Limits) (fresh : PlainSearch) (answer : Answer) (S : PlainSearch) where
  pub course-gap : Course M l fresh answer S → HasGap l S answer
  course-gap (NothingOpen none kept is) = subst (HasGap l S) (sym is) tt
  course-gap (StopsFirst some why s kept told) = stop-gap l S why answer 0 told
  course-gap (Searches some ways first b e finds told) = ended-gap l ways first fresh S e.ended e.results answer finds.ends finds.left told
  course-gap (WantsBefore kept is) = subst (HasGap l S) (sym is) tt
  course-gap (WantsWithin ways first b gives is) = subst (HasGap l S) (sym is) tt

  pub course-finished : Course M l fresh answer S → IsFinishedKind answer → HasNoOpenLeaf S
  course-finished (NothingOpen none kept is) kind = subst HasNoOpenLeaf (sym kept) none
  course-finished (StopsFirst some why s kept told) kind = absurd (stop-kind S why answer told kind)
  course-finished (Searches some ways first b e finds told) kind = finished-left S e.ended e.results answer finds.left told kind
  course-finished (WantsBefore kept is) kind = absurd (subst IsFinishedKind is kind)
  course-finished (WantsWithin ways first b gives is) kind = absurd (subst IsFinishedKind is kind)

  pub course-points : Course M l fresh answer S → SaysUnbounded answer → 0 < length S.points
  course-points (NothingOpen none kept is) u = absurd (subst SaysUnbounded is u)
  course-points (StopsFirst some why s kept told) u = absurd (stop-bounded S why answer 0 told u)
  course-points (Searches some ways first b e finds told) u =
      points-some ways first (turn_order_of l) l.nodes l.pivots e.results fresh S (subst (Ends ways first (turn_order_of l) l.nodes l.pivots e.results fresh S) (unbounded-ended S e.ended e.results answer told u) finds.ends)
  course-points (WantsBefore kept is) u = absurd (subst SaysUnbounded is u)
  course-points (WantsWithin ways first b gives is) u = absurd (subst SaysUnbounded is u)

-- a gap that was given is at least 0
gap-lawful : (gap : Option ℚ) (g : ℚ) → IsGapLimit gap → gap ≡ Some g → int (pos 0) ≤ℚ g
gap-lawful gap g lawful is = subst IsGapLimit is lawful

pub held-so : (l : Limits) → IsGapLimit l.gap → (S : PlainSearch) (answer : Answer) (direction : Option Point) → (IsFinishedKind answer → HasNoOpenLeaf S) → (SaysUnbounded answer → (d : Point) → direction ≡ Some d → HasPointAndRay S d) → HasGap l S answer → IsHeld (Some S) (held_by answer direction)
held-so l lawful S (Optimal v x n) direction closed beside gap = closed tt
held-so l lawful S (Within g v x n) direction closed beside gap = (gap-lawful l.gap g lawful gap.0, gap.1)
held-so l lawful S (Infeasible n) direction closed beside gap = closed tt
held-so l lawful S (Unbounded n) (Some d) closed beside gap = beside tt d refl
held-so l lawful S (Unbounded n) None closed beside gap = tt
held-so l lawful S (Stopped why n bound best) direction closed beside gap = tt
held-so l lawful S Memory direction closed beside gap = tt

pub solves-held : (M : Program) (l : Limits) → IsGapLimit l.gap → (old : PlainSearch) (answer : Answer) (direction : Option Point) (S : PlainSearch) → SolvesModel M l old answer S → HasRayFor M l.pivots answer direction → IsHeld (Some S) (held_by answer direction)
solves-held M l lawful old answer direction S (inl s) has =
    held-so l lawful S answer direction (course-finished M l s.fresh answer S s.course)
    (λ u d is. record {
      point = course-points M l s.fresh answer S s.course u;
      is_ray = subst (λ N. IsRayJudged N d (Ok true)) (sym s.model) (judged_ray M l.pivots d (subst (HasRayFor M l.pivots answer) is has));
    })
    (course-gap M l s.fresh answer S s.course)
solves-held M l lawful old answer direction S (inr wants) has = subst (λ a. IsHeld (Some S) (held_by a direction)) (sym wants.wants) tt

pub solves-env : (l : Limits) (old new : PlainEnv) (S T : PlainSearch) (answer : Answer) (direction : Option Point) → old.search ≡ Some S → SolvesFrom l S answer T → HasRayFrom l S answer direction → new ≡ with_answer T (held_by answer direction)
    → WorksEnv (SolvesFrom l) (HasRayFrom l) old.search old (Ok answer) new
solves-env l old new S T answer direction there solves has is =
    subst (λ o. WorksEnv (SolvesFrom l) (HasRayFrom l) o old (Ok answer) new) (sym there)
    (record { search = T; found = solves; oldest = solves-oldest S.model l S answer T solves; direction = direction; has_ray = has; env_is = is })
