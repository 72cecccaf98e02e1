-- What a reply to `mcsolve` shows. S is the search that is kept, of the model whose front is looked for within the limits l; the search stays.
-- Outcomes are read from the reply's bytes alone (`front_shown`), and the reply is nothing but what is said here.
use Rattle.std.specs.Prelude.{◌≡◌, ◌⊎◌, ℕ, ◌<◌, List, Option, Some, None}
use Rattle.frac128.specs.Rational.{ℚ}
use Rattle.lp_model.specs.declared.types.ColId.{ColId}
use Rattle.lp_model.specs.declared.answers.StopWhy.{StopWhy}
use Rattle.sound_searches.specs.Sound.{PlainSearch}
use Rattle.kept_env.specs.Env.{PlainEnv, with_answer, without_answer}
use Rattle.kept_env.specs.declared.held.Held.{Held}
use Rattle.kept_env.specs.declared.held.Held.TheVariants.{Nothing}
use Rattle.tree_search.specs.declared.limits.Limits.{Limits}
use Rattle.wcn_driver.specs.declared.answers.Part.{Part}
use Rattle.wcn_driver.specs.declared.answers.ScalePlace.{ScalePlace}
use Rattle.front_search.specs.FrontsFound.{IsWholeFront, IsNoFront, IsStoppedAt, IsWideAtPart, IsFirstNotWholeObjective}
use Rattle.front_search.specs.Completeness.{IsFrontEnough}
use Rattle.reply_texts.specs.Texts.{infeasible_text, not_whole_text, no_model_text, memory_text}
use Rattle.command_files.specs.Checking.{inner_program}
use Rattle.command_family.specs.State.{ShellState}
use Rattle.command_family.specs.Unchanged.{IsRefused}
use Rattle.front_replies.specs.FrontReplies.{complete_front_text, stopped_front_text, wide_front_text}
use Rattle.front_replies.specs.FrontsShown.{front_shown}
use Rattle.front_commands.specs.Answering.{front_limits}

-- The outcomes that the reply shows are exactly those that no feasible outcome dominates, each once, by rising first value; their certificate is
-- held, which the checker accepts for the model (`IsFrontVerdict`).
pub record ShowsFront (S : PlainSearch) (reply : List ℕ) (env : PlainEnv) : Type 0 where
  pub held : Held
  pub whole : IsWholeFront S.model (front_shown reply) held
  pub told : reply ≡ complete_front_text (front_shown reply)
  pub env_is : env ≡ with_answer S held

-- no point is feasible, and the certificate of that is held, which the checker accepts for the model (`IsVerdict`)
pub record ShowsNoFront (S : PlainSearch) (l : Limits) (reply : List ℕ) (env : PlainEnv) : Type 0 where
  pub results : ℕ
  pub held : Held
  pub none : IsNoFront l S.model results held
  pub told : reply ≡ infeasible_text results
  pub env_is : env ≡ with_answer S held

-- Each outcome that the reply shows is one of those, and the search of the part's inner model stopped for this cause, the limits not being enough
-- for it; no feasible point of that model is better than the bound, and some has the best value.
pub record ShowsStoppedFront (S : PlainSearch) (l : Limits) (reply : List ℕ) (env : PlainEnv) : Type 0 where
  pub part : Part
  pub why : StopWhy
  pub results : ℕ
  pub bound : Option ℚ
  pub best : Option ℚ
  pub stopped : IsStoppedAt l S.model (front_shown reply) part why results bound best Nothing
  pub short : ¬ IsFrontEnough l S.model results
  pub told : reply ≡ stopped_front_text (inner_program S.model) (front_shown reply) part why results bound best
  pub env_is : env ≡ without_answer S

-- or this number of the part is its first without room
pub record ShowsWideFront (S : PlainSearch) (l : Limits) (reply : List ℕ) (env : PlainEnv) : Type 0 where
  pub part : Part
  pub place : ScalePlace
  pub wide : IsWideAtPart S.model (front_shown reply) part place Nothing
  pub short : ¬ IsFrontEnough l S.model 0
  pub told : reply ≡ wide_front_text S.model (front_shown reply) part place
  pub env_is : env ≡ without_answer S

-- an objective is not whole, the first one before the second, by this column, or by its constant
pub record ShowsNotWhole (S : PlainSearch) (l : Limits) (reply : List ℕ) : Type 0 where
  pub which : ℕ
  pub column : Option ColId
  pub first : IsFirstNotWholeObjective S.model which column
  pub short : ¬ IsFrontEnough l S.model 0
  pub told : reply ≡ not_whole_text S.model which column

-- what `mcsolve` may be answered; where an objective is not whole all stays, and where there was no memory what was held is gone
pub data AnswersFront (S : PlainSearch) (l : Limits) (old : PlainEnv) (reply : List ℕ) (new : PlainEnv) : Type 0 where
  Whole : ShowsFront S reply new → AnswersFront S l old reply new
  Empty : ShowsNoFront S l reply new → AnswersFront S l old reply new
  Stopped : ShowsStoppedFront S l reply new → AnswersFront S l old reply new
  Wide : ShowsWideFront S l reply new → AnswersFront S l old reply new
  NotWhole : ShowsNotWhole S l reply → new ≡ old → AnswersFront S l old reply new
  Wanting : reply ≡ memory_text → new ≡ without_answer S → AnswersFront S l old reply new

-- of the environment's search, if there is one
abbrev pub RepliesToFront : PlainEnv → Option PlainSearch → Limits → List ℕ → PlainEnv → Type 0
RepliesToFront old None l reply new = IsRefused old no_model_text reply new
RepliesToFront old (Some S) l reply new = AnswersFront S l old reply new

-- the files stay
pub record FrontStep (old : ShellState) (nodes pivots : ℕ) (reply : List ℕ) (new : ShellState) : Type 0 where
  pub files : new.files ≡ old.files
  pub faults : new.faults ≡ old.faults
  pub answer : RepliesToFront old.env old.env.search (front_limits nodes pivots) reply new.env

-- Where a search for a front ends: with a whole one, or none, or for want of memory; or it stopped when more than n results were placed.
abbrev pub EndsFront : PlainSearch → Limits → ℕ → List ℕ → PlainEnv → Type 0
EndsFront S l n reply env = ShowsFront S reply env ⊎ ShowsNoFront S l reply env ⊎ (reply ≡ memory_text) ⊎ ((stop : ShowsStoppedFront S l reply env) × (n < stop.results))
