-- What the replies to `solve` and `warm` show, whatever was done to find it.
--     Found answer S     how the search S was had that shows the answer: from a fresh root, or from the search that was kept
--     Left S             how the search S was had that is left where there was no memory
--     Enough             what would have been enough for the search to go to the end
--     Small              that its tree was too small
use Rattle.std.specs.Prelude.{◌≡◌, ◌⊎◌, ℕ, ◌<◌, ◌≤◌, List, Option, Some}
use Rattle.frac128.specs.Rational.{ℚ}
use Rattle.lp_model.specs.Program.{Program, Point, IsOptimum, IsWithinGap, IsEmpty, value}
use Rattle.lp_model.specs.declared.answers.PivotPlace.{PivotPlace}
use Rattle.lp_model.specs.declared.answers.WideAt.{WideAt}
use Rattle.lp_model.specs.declared.answers.StopWhy.{StopWhy}
use Rattle.lp_model.specs.declared.answers.StopWhy.TheVariants.{Nodes, Tree, Pivots, Wide}
use Rattle.search_answers.specs.declared.answers.Answer.{Answer}
use Rattle.search_answers.specs.declared.answers.Answer.TheVariants.{Optimal, Within, Infeasible, Unbounded, Stopped}
use Rattle.model_points.specs.Rays.{IsRay, IsUnbounded}
use Rattle.ray_phase.specs.Answers.{IsRayAnswer}
use Rattle.ray_phase.specs.declared.phase.RayAnswer.TheVariants as phase
use Rattle.search_counting.specs.Work.{cap_of}
use Rattle.search_parts.specs.Points.{IsIncumbent}
use Rattle.sound_searches.specs.Sound.{PlainSearch}
use Rattle.model_points.specs.Bounds.{IsBound, IsFoundValue}
use Rattle.tree_search.specs.Truth.{IsCount}
use Rattle.tree_search.specs.Steps.{HasOpenLeaf}
use Rattle.search_gaps.specs.Within.{AreLeavesWithin}
use Rattle.tree_search.specs.declared.limits.Limits.{Limits}
use Rattle.kept_env.specs.Env.{PlainEnv}
use Rattle.kept_env.specs.declared.held.Held.{Held}
use Rattle.kept_env.specs.declared.held.Held.TheVariants.{Nothing, Finished}
use Rattle.kept_env.specs.declared.held.Held.TheVariants as holding
use Rattle.reply_texts.specs.Texts.{answer_text, memory_text}
use Rattle.shell_replies.specs.Shown.{point_shown, value_shown, gap_shown, value_within_shown}

abbrev pub Finding : Type 1
Finding = Answer → PlainSearch → Type 0

-- This was found of the model by the search that the environment has from now on, and so much of it is held; the reply is the text of
-- the answer.
pub record TellsBy (Found : Finding) (M : Program) (answer : Answer) (held : Held) (reply : List ℕ) (env : PlainEnv) : Type 0 where
  pub search : PlainSearch
  pub solved : Found answer search
  pub env_is : env ≡ record { search = Some search; held = held }
  pub shown : reply ≡ answer_text M answer

-- The point that the reply shows is an optimum of the model, and the value that it shows is the point's. Both are read
-- from the reply's bytes alone, and the reply is nothing but them and the number of results, which passes neither limit.
-- Of the points that the finished search keeps it is the oldest with the best value. The search is held.
pub record ShowsOptimumBy (Found : Finding) (M : Program) (l : Limits) (reply : List ℕ) (env : PlainEnv) : Type 0 where
  pub optimum : IsOptimum M (point_shown M reply)
  pub worth : value_shown reply ≡ Some (value M 1 (point_shown M reply))
  pub results : ℕ
  pub told : TellsBy Found M (Optimal (value M 1 (point_shown M reply)) (point_shown M reply) results) Finished reply env
  pub oldest : IsIncumbent M told.search.points (Some (point_shown M reply))
  pub count : IsCount M l results

-- The point that the reply shows is feasible, and no feasible point beats it by more than the gap that the reply shows, which was asked for; the
-- value that it shows is the point's. All three are read from the reply's bytes alone, and the reply is nothing but them and the number of results.
-- A leaf is open, and all leaves are within the gap. Of the points that the search keeps it is the oldest with the best value. The search is held
-- with the gap.
pub record ShowsWithinBy (Found : Finding) (M : Program) (l : Limits) (reply : List ℕ) (env : PlainEnv) : Type 0 where
  pub gap : ℚ
  pub asked : l.gap ≡ Some gap
  pub gap_is : gap_shown reply ≡ Some gap
  pub within : IsWithinGap M gap (point_shown M reply)
  pub worth : value_within_shown reply ≡ Some (value M 1 (point_shown M reply))
  pub results : ℕ
  pub told : TellsBy Found M (Within gap (value M 1 (point_shown M reply)) (point_shown M reply) results) (holding.Within gap) reply env
  pub oldest : IsIncumbent M told.search.points (Some (point_shown M reply))
  pub left : HasOpenLeaf told.search
  pub leaves : AreLeavesWithin told.search gap
  pub within_limit : results ≤ l.nodes
  pub below_cap : results < cap_of M

-- the reply says truly that no point is feasible, and the search is held
pub record ShowsEmptinessBy (Found : Finding) (M : Program) (l : Limits) (reply : List ℕ) (env : PlainEnv) : Type 0 where
  pub empty : IsEmpty M
  pub results : ℕ
  pub told : TellsBy Found M (Infeasible results) Finished reply env
  pub count : IsCount M l results

-- the reply says truly that the objective has no end; a ray that the ray phase found is held beside the search, which keeps a point
pub record ShowsNoEndBy (Found : Finding) (M : Program) (l : Limits) (reply : List ℕ) (env : PlainEnv) : Type 0 where
  pub unbounded : IsUnbounded M
  pub results : ℕ
  pub direction : Point
  pub is_ray : IsRay M direction
  pub found : IsRayAnswer M l.pivots (phase.Ray direction)
  pub told : TellsBy Found M (Unbounded results) (holding.Unbounded direction) reply env
  pub count : IsCount M l results

-- The search stopped for this cause after so many results, not having enough to go to the end. No feasible point is better than the
-- bound that is told, and some feasible point has the best value.
pub record ShowsStopBy (Found : Finding) (Enough : Type 0) (M : Program) (l : Limits) (why : StopWhy) (results : ℕ) (reply : List ℕ) (env : PlainEnv) : Type 0 where
  pub bound : Option ℚ
  pub best : Option ℚ
  pub holds : IsBound M bound
  pub found : IsFoundValue M best
  pub told : TellsBy Found M (Stopped why results bound best) Nothing reply env
  pub below_cap : results < cap_of M
  pub short : ¬ Enough

-- all results that the limit allows were placed
abbrev pub ShowsNodeStopBy : Finding → Type 0 → Program → Limits → List ℕ → PlainEnv → Type 0
ShowsNodeStopBy Found Enough M l reply env = ShowsStopBy Found Enough M l Nodes l.nodes reply env

-- a leaf is to be split, the tree having no room for two more nodes, as it may have where it is too small
pub record ShowsTreeStopBy (Found : Finding) (Enough Small : Type 0) (M : Program) (l : Limits) (reply : List ℕ) (env : PlainEnv) : Type 0 where
  pub results : ℕ
  pub stop : ShowsStopBy Found Enough M l Tree results reply env
  pub within_limit : results < l.nodes
  pub small : Small

-- the relaxation that is told was not solved by as many moves as the limit allows
pub record ShowsPivotStopBy (Found : Finding) (Enough : Type 0) (M : Program) (l : Limits) (reply : List ℕ) (env : PlainEnv) : Type 0 where
  pub results : ℕ
  pub place : PivotPlace
  pub stop : ShowsStopBy Found Enough M l (Pivots place) results reply env
  pub within_limit : results ≤ l.nodes

-- the step that is told has no room at the basis that is told
pub record ShowsWideStopBy (Found : Finding) (Enough : Type 0) (M : Program) (l : Limits) (reply : List ℕ) (env : PlainEnv) : Type 0 where
  pub results : ℕ
  pub place : WideAt
  pub stop : ShowsStopBy Found Enough M l (Wide place) results reply env
  pub within_limit : results ≤ l.nodes

-- there was no memory: no answer is held
pub record WantsBy (Left : PlainSearch → Type 0) (reply : List ℕ) (env : PlainEnv) : Type 0 where
  pub told : reply ≡ memory_text
  pub search : PlainSearch
  pub left : Left search
  pub env_is : env ≡ record { search = Some search; held = Nothing }

-- what a search of the model may be answered that may go so far
pub data AnswersBy (Found : Finding) (Left : PlainSearch → Type 0) (Enough Small : Type 0) (M : Program) (l : Limits) (reply : List ℕ) (env : PlainEnv) : Type 0 where
  Optimum : ShowsOptimumBy Found M l reply env → AnswersBy Found Left Enough Small M l reply env
  Gap : ShowsWithinBy Found M l reply env → AnswersBy Found Left Enough Small M l reply env
  Emptiness : ShowsEmptinessBy Found M l reply env → AnswersBy Found Left Enough Small M l reply env
  NoEnd : ShowsNoEndBy Found M l reply env → AnswersBy Found Left Enough Small M l reply env
  NodeStop : ShowsNodeStopBy Found Enough M l reply env → AnswersBy Found Left Enough Small M l reply env
  TreeStop : ShowsTreeStopBy Found Enough Small M l reply env → AnswersBy Found Left Enough Small M l reply env
  PivotStop : ShowsPivotStopBy Found Enough M l reply env → AnswersBy Found Left Enough Small M l reply env
  WideStop : ShowsWideStopBy Found Enough M l reply env → AnswersBy Found Left Enough Small M l reply env
  Wanting : WantsBy Left reply env → AnswersBy Found Left Enough Small M l reply env

-- the search went to its end, or is within its gap, or there was no memory
abbrev pub EndsBy : Finding → Program → Limits → List ℕ → PlainEnv → Type 0
EndsBy Found M l reply env = ShowsOptimumBy Found M l reply env ⊎ ShowsWithinBy Found M l reply env ⊎ ShowsEmptinessBy Found M l reply env ⊎ ShowsNoEndBy Found M l reply env ⊎ (reply ≡ memory_text)
