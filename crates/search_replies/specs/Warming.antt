-- What `warm` may answer of the search that is kept.
use Rattle.std.specs.Prelude.{◌≡◌, ◌⊎◌, ◌<◌, ℕ, List, length, Option, Some, None, Result, IfOk, IfSome}
use Rattle.command_words.specs.declared.options.SearchOptions.{SearchOptions}
use Rattle.search_answers.specs.declared.answers.Answer.{Answer}
use Rattle.search_answers.specs.declared.answers.Answer.TheVariants.{Memory}
use Rattle.ray_phase.specs.Beginnings.{FindsRay}
use Rattle.sound_searches.specs.Calls.{search_with_limit}
use Rattle.sound_searches.specs.Laws.{HasNoOpenLeaf}
use Rattle.sound_searches.specs.Sound.{PlainSearch}
use Rattle.tree_search.specs.Extends.{Extends}
use Rattle.tree_search.specs.Enough.{IsKeptEnough}
use Rattle.tree_search.specs.Solves.{HasRayFrom}
use Rattle.tree_search.specs.Warm.{Warms, WarmsFrom, PlacesNone, PlacesNoResult}
use Rattle.tree_search.specs.Steps.{HasOpenLeaf}
use Rattle.search_gaps.specs.Within.{AreLeavesWithin}
use Rattle.frac128.specs.Rational.{ℚ}
use Rattle.tree_search.specs.Truth.{IsTooSmall, IsTrueOfKept, HasEnded}
use Rattle.tree_search.specs.declared.limits.Limits.{Limits}
use Rattle.kept_env.specs.Env.{PlainEnv, pool_in}
use Rattle.kept_env.specs.declared.env.EnvFault.{EnvFault}
use Rattle.kept_env.specs.Worked.{WorksEnv}
use Rattle.reply_texts.specs.Texts.{answer_text, unbounded_text, no_model_text, memory_text}
use Rattle.command_family.specs.State.{ShellState}
use Rattle.search_replies.specs.Showing.{AnswersBy}
use Rattle.search_replies.specs.Workers.{Staffed}
use Rattle.search_replies.specs.Solve.{limits_of}

-- the search went on from S: open leaves became trees, and every other node stays
pub record WentOn (S : PlainSearch) (l : Limits) (answer : Answer) (T : PlainSearch) : Type 0 where
  pub warms : Warms l (search_with_limit S l.tree) answer T
  pub model : T.model ≡ S.model
  pub extends : Extends S.tree.root T.tree.root

-- what is known where the search of an environment went on
pub record IsWarmed (l : Limits) (old : PlainEnv) (result : Result Answer EnvFault) (new : PlainEnv) : Type 0 where
  pub warms : WorksEnv (WarmsFrom l) (HasRayFrom l) old.search old result new
  pub true_answer : IfOk result (λ answer. IfSome old.search (λ S. IsTrueOfKept S l answer))
  pub complete : IfOk result (λ answer. IfSome old.search (λ S. IsKeptEnough S (pool_in new.search) l → HasEnded answer))

-- what a search that goes on may be answered; where there is no memory it has the results that were placed
abbrev pub AnswersWarm : PlainSearch → Limits → List ℕ → PlainEnv → Type 0
AnswersWarm S l reply env = AnswersBy (WentOn S l) (WentOn S l Memory) (IsKeptEnough S (pool_in env.search) l) (IsTooSmall S l) S.model l reply env

-- after a search that closed every leaf nothing is placed: the reply is the text of an answer without a result, or memory was wanting
abbrev pub TellsAgain : PlainSearch → List ℕ → Type 0
TellsAgain S reply = HasNoOpenLeaf S → (answer : Answer) × (PlacesNone answer × (reply ≡ answer_text S.model answer))

-- a search that is within the gap already places nothing: the reply is the text of an answer without a result
abbrev pub TellsWithinAgain : PlainSearch → Limits → List ℕ → Type 0
TellsWithinAgain S l reply = (g : ℚ) → l.gap ≡ Some g → HasOpenLeaf S → AreLeavesWithin S g → (answer : Answer) × (PlacesNoResult answer × (reply ≡ answer_text S.model answer))

-- beside a kept point a ray shows that the objective has no end: nothing is placed, or memory was wanting
abbrev pub TellsNoEnd : PlainSearch → Limits → List ℕ → Type 0
TellsNoEnd S l reply = 0 < length S.points → FindsRay S.model l.pivots → (reply ≡ unbounded_text 0) ⊎ (reply ≡ memory_text)

-- of the environment's search, if there is one
abbrev pub RepliesToWarm : PlainEnv → Option PlainSearch → Limits → List ℕ → PlainEnv → Type 0
RepliesToWarm old None l reply env = ((reply ≡ no_model_text) ⊎ (reply ≡ memory_text)) × (env ≡ old)
RepliesToWarm old (Some S) l reply env = AnswersWarm S l reply env × (TellsAgain S reply × (TellsNoEnd S l reply × TellsWithinAgain S l reply))

-- the files stay
pub record WarmStep (old : ShellState) (options : SearchOptions) (reply : List ℕ) (new : ShellState) : Type 0 where
  pub files : new.files ≡ old.files
  pub faults : new.faults ≡ old.faults
  pub answer : Staffed options.workers (RepliesToWarm old.env old.env.search (limits_of options) reply new.env) old.env reply new.env
