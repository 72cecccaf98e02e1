-- What a search on a model comes to: its end, or where it stopped; and what that shows.
use Rattle.std.specs.Prelude.{◌≡◌, ◌⊎◌, ℕ, ◌+◌, ◌<◌, ◌≤◌, [], Option, Some}
use Rattle.std.specs.Option.{option_map}
use Rattle.std.proofs.Common.{inl, inr}
use Rattle.frac128.specs.Rational.{ℚ}
use Rattle.lp_model.specs.Program.{Point, IsFeasible, IsOptimum, IsWithinGap, IsEmpty, value, in_own_sense}
use Rattle.lp_model.specs.Regions.{Path, InRegion}
use Rattle.lp_model.specs.declared.types.Basis.{Basis}
use Rattle.lp_model.specs.declared.answers.WideAt.{WideAt}
use Rattle.lp_model.specs.declared.answers.StopWhy.{StopWhy}
use Rattle.lp_model.specs.declared.answers.StopWhy.TheVariants as why
use Rattle.search_answers.specs.declared.answers.Answer.{Answer}
use Rattle.search_answers.specs.declared.answers.Answer.TheVariants as answer
use Rattle.model_points.specs.Rays.{IsUnbounded}
use Rattle.search_parts.specs.Points.{target, IsIncumbent}
use Rattle.sound_searches.specs.Calls.{IsOpenLeaf}
use Rattle.sound_searches.specs.Laws.{HasNoOpenLeaf, IsNoBetter}
use Rattle.sound_searches.specs.Sound.{PlainSearch}
use Rattle.search_counting.specs.Work.{cap_of}
use Rattle.model_points.specs.Bounds.{IsFoundValue}
use Rattle.tree_search.specs.Bounds.{IsBoundOf}
use Rattle.branch_tree.specs.declared.node.Job.{Job}
use Rattle.tree_search.specs.Steps.{HasOpenLeaf, FullAtNext, PivotsAtNext, StepAtNext, ValueAtNext, PointAtNext}
use Rattle.tree_search.specs.Turns.{Order, ActsOn, Goes}
use Rattle.tree_search.specs.Causes.{HasStopCause}
use Rattle.tree_search.specs.Extends.{Extends}
use Rattle.search_gaps.specs.Within.{AreLeavesWithin}
use Rattle.tree_search.specs.Within.{IsGapReached}
use Rattle.tree_search.specs.GivingUp.{LeavesTurn}
use Rattle.tree_search.specs.declared.searching.Ways.{Ways}
use Rattle.tree_search.specs.declared.searching.Ended.{Ended}
use Rattle.tree_search.specs.declared.searching.Ended.TheVariants.{Finished, Within, Unbounded, Stopped}
use Rattle.tree_search.specs.declared.searching.Searched.{Searched}

-- ---- where it stops, and where it ends

-- n results were placed, fewer than the limit allows, and what is said holds of the search then, at the turn of a worker that holds
-- that job
pub record IsAfter (ways : Ways) (first : Basis) (order : Order) (nodes pivots n : ℕ) (old : PlainSearch) (Here : PlainSearch → Type 0) (job_of : (mid : PlainSearch) → Here mid → Job) : Type 0 where
  pub mid : PlainSearch
  pub goes : Goes ways first pivots order n old mid
  pub below_limit : n < nodes
  pub here : Here mid
  pub turn : ActsOn goes.crew (job_of mid here)
  pub going : ¬ IsGapReached ways order.gap mid

-- as many results as the limit allows were placed, and the search is not done within the gap
pub record IsAtLimit (ways : Ways) (first : Basis) (order : Order) (nodes pivots n : ℕ) (old new : PlainSearch) : Type 0 where
  pub goes : Goes ways first pivots order n old new
  pub all : n ≡ nodes
  pub going : ¬ IsGapReached ways order.gap new

-- a step of the work has no room, or beside a ray one of the value of the point
abbrev pub WideAtNext : Ways → Basis → ℕ → PlainSearch → PlainSearch → WideAt → Type 0
WideAtNext ways first pivots old new at = StepAtNext ways first pivots old new at ⊎ ValueAtNext ways first pivots old new at

abbrev pub wide_job : (ways : Ways) (first : Basis) (pivots : ℕ) (old new : PlainSearch) (at : WideAt) → WideAtNext ways first pivots old new at → Job
wide_job ways first pivots old new at (inl h) = h.job
wide_job ways first pivots old new at (inr h) = h.job

abbrev pub StopsFor : Ways → Basis → Order → ℕ → ℕ → ℕ → PlainSearch → PlainSearch → StopWhy → Type 0
StopsFor ways first order nodes pivots n old new why.Nodes = IsAtLimit ways first order nodes pivots n old new
StopsFor ways first order nodes pivots n old new why.Tree = IsAfter ways first order nodes pivots n old (λ mid. FullAtNext ways first pivots mid new) (λ mid here. here.job)
StopsFor ways first order nodes pivots n old new (why.Pivots place) = IsAfter ways first order nodes pivots n old (λ mid. PivotsAtNext ways first pivots mid new place) (λ mid here. here.job)
StopsFor ways first order nodes pivots n old new (why.Wide at) = IsAfter ways first order nodes pivots n old (λ mid. WideAtNext ways first pivots mid new at) (λ mid here. wide_job ways first pivots mid new at here)

-- the point that is found beside a ray is the last of n results
pub record FindsPoint (ways : Ways) (first : Basis) (order : Order) (nodes pivots n : ℕ) (old new : PlainSearch) : Type 0 where
  pub before : ℕ
  pub counted : n ≡ before + 1
  pub after : IsAfter ways first order nodes pivots before old (λ mid. PointAtNext ways first pivots mid new) (λ mid here. here.job)
  pub unbounded : IsUnbounded old.model

-- no leaf is open
pub record FinishesSearch (ways : Ways) (first : Basis) (order : Order) (pivots n : ℕ) (old new : PlainSearch) : Type 0 where
  pub goes : Goes ways first pivots order n old new
  pub finished : HasNoOpenLeaf new

-- all leaves are within this gap, which was given, and a leaf is open; no ray was found
pub record EndsWithin (ways : Ways) (first : Basis) (order : Order) (pivots n : ℕ) (g : ℚ) (old new : PlainSearch) : Type 0 where
  pub goes : Goes ways first pivots order n old new
  pub asked : order.gap ≡ Some g
  pub done : IsGapReached ways (Some g) new

abbrev pub Ends : Ways → Basis → Order → ℕ → ℕ → ℕ → PlainSearch → PlainSearch → Ended → Type 0
Ends ways first order nodes pivots n old new Finished = FinishesSearch ways first order pivots n old new
Ends ways first order nodes pivots n old new Unbounded = FindsPoint ways first order nodes pivots n old new
Ends ways first order nodes pivots n old new (Within g) = EndsWithin ways first order pivots n g old new
Ends ways first order nodes pivots n old new (Stopped why) = StopsFor ways first order nodes pivots n old new why

-- whether a leaf is left open, and with a gap what holds of all leaves
abbrev pub IsLeft : PlainSearch → Ended → Type 0
IsLeft S Finished = HasNoOpenLeaf S
IsLeft S Unbounded = HasOpenLeaf S
IsLeft S (Within g) = HasOpenLeaf S × AreLeavesWithin S g
IsLeft S (Stopped why) = HasOpenLeaf S

-- so many results were placed, no more than the limit and the model's cap, and every node but open leaves stays; the search had from its
-- start a cause to stop, if it stops
pub record Finds (ways : Ways) (first : Basis) (order : Order) (nodes pivots : ℕ) (old new : PlainSearch) (searched : Searched) : Type 0 where
  pub within_limit : searched.results ≤ nodes
  pub within_cap : searched.results ≤ cap_of old.model
  pub model : new.model ≡ old.model
  pub ends : Ends ways first order nodes pivots searched.results old new searched.ended
  pub left : IsLeft new searched.ended
  pub extends : Extends old.tree.root new.tree.root
  pub cause : HasStopCause old new.cuts ways first nodes pivots searched.ended

-- without memory: results were placed, no more than the limit allows, and then nothing was done, or, where the limit allows one more
-- result and the search is not done within the gap, cuts were added that the work on a leaf found whose worker had its turn; the search can
-- go on
pub record GivesUp (ways : Ways) (first : Basis) (order : Order) (nodes pivots : ℕ) (old new : PlainSearch) : Type 0 where
  pub results : ℕ
  pub within_limit : results ≤ nodes
  pub mid : PlainSearch
  pub goes : Goes ways first pivots order results old mid
  pub adds : (new ≡ mid) ⊎ ((results < nodes) × LeavesTurn ways first pivots goes.crew mid new)
  pub going : (new ≡ mid) ⊎ (¬ IsGapReached ways order.gap mid)

-- ---- what an end shows

-- no leaf is open, and the best kept point is an optimum
pub record FindsOptimum (S : PlainSearch) (v : ℚ) (x : Point) : Type 0 where
  pub finished : HasNoOpenLeaf S
  pub incumbent : IsIncumbent S.model S.points (Some x)
  pub optimum : IsOptimum S.model x
  pub value : v ≡ value S.model 1 x

-- no leaf is open, and no point was kept
pub record FindsNone (S : PlainSearch) : Type 0 where
  pub finished : HasNoOpenLeaf S
  pub no_point : S.points ≡ []
  pub none : IsEmpty S.model

-- a leaf is open, all leaves are within the gap, and the best kept point is so
pub record FindsWithin (S : PlainSearch) (g v : ℚ) (x : Point) : Type 0 where
  pub left : HasOpenLeaf S
  pub leaves : AreLeavesWithin S g
  pub incumbent : IsIncumbent S.model S.points (Some x)
  pub within : IsWithinGap S.model g x
  pub value : v ≡ value S.model 1 x

-- ---- what is known where it stops

-- x is in the region of an open leaf
pub record IsInOpenLeaf (S : PlainSearch) (x : Point) : Type 0 where
  pub id : ℕ
  pub path : Path
  pub leaf : IsOpenLeaf S id path
  pub inside : InRegion path x

-- the best value of the kept points in the model's own sense, if there is one
abbrev pub best_value : PlainSearch → Option ℚ
best_value S = option_map (in_own_sense S.model.sense) (target S.model S.points)

-- each feasible point is in an open leaf's region or no better than the best kept one, whose value this is, and the bound
-- is that of the open leaves
pub record StopsWith (S : PlainSearch) (bound best : Option ℚ) : Type 0 where
  pub cover : (x : Point) → IsFeasible S.model x → IsInOpenLeaf S x ⊎ IsNoBetter S.model (target S.model S.points) x
  pub bound_is : IsBoundOf S bound
  pub best_is : best ≡ best_value S
  pub found : IsFoundValue S.model best

-- ---- answers

-- the answer of a search without an open leaf
abbrev pub IsFinishedAnswer : PlainSearch → ℕ → Answer → Type 0
IsFinishedAnswer S n (answer.Optimal v x m) = FindsOptimum S v x × (m ≡ n)
IsFinishedAnswer S n (answer.Infeasible m) = FindsNone S × (m ≡ n)
IsFinishedAnswer S n (answer.Within g v x m) = ⊥
IsFinishedAnswer S n (answer.Unbounded m) = ⊥
IsFinishedAnswer S n (answer.Stopped why m bound best) = ⊥
IsFinishedAnswer S n answer.Memory = Unit {0}

-- the answer of a search that stops for this with an open leaf
abbrev pub IsStoppedAnswer : PlainSearch → StopWhy → ℕ → Answer → Type 0
IsStoppedAnswer S why n (answer.Optimal v x m) = ⊥
IsStoppedAnswer S why n (answer.Within g v x m) = ⊥
IsStoppedAnswer S why n (answer.Infeasible m) = ⊥
IsStoppedAnswer S why n (answer.Unbounded m) = ⊥
IsStoppedAnswer S why n (answer.Stopped reason m bound best) = (reason ≡ why) × (m ≡ n) × StopsWith S bound best
IsStoppedAnswer S why n answer.Memory = Unit {0}

abbrev pub IsUnboundedAnswer : ℕ → Answer → Type 0
IsUnboundedAnswer n (answer.Optimal v x m) = ⊥
IsUnboundedAnswer n (answer.Within g v x m) = ⊥
IsUnboundedAnswer n (answer.Infeasible m) = ⊥
IsUnboundedAnswer n (answer.Unbounded m) = m ≡ n
IsUnboundedAnswer n (answer.Stopped why m bound best) = ⊥
IsUnboundedAnswer n answer.Memory = ⊥

-- the answer of a search that is done within this gap
abbrev pub IsWithinAnswer : PlainSearch → ℚ → ℕ → Answer → Type 0
IsWithinAnswer S g n (answer.Optimal v x m) = ⊥
IsWithinAnswer S g n (answer.Within h v x m) = (h ≡ g) × FindsWithin S g v x × (m ≡ n)
IsWithinAnswer S g n (answer.Infeasible m) = ⊥
IsWithinAnswer S g n (answer.Unbounded m) = ⊥
IsWithinAnswer S g n (answer.Stopped why m bound best) = ⊥
IsWithinAnswer S g n answer.Memory = Unit {0}

-- what is answered of a search that came to this
abbrev pub IsAnswerAtEnd : PlainSearch → Ended → ℕ → Answer → Type 0
IsAnswerAtEnd S Finished n a = IsFinishedAnswer S n a
IsAnswerAtEnd S Unbounded n a = IsUnboundedAnswer n a
IsAnswerAtEnd S (Within g) n a = IsWithinAnswer S g n a
IsAnswerAtEnd S (Stopped why) n a = IsStoppedAnswer S why n a
