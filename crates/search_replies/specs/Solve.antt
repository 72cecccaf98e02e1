-- What `solve` may answer of the model that is loaded.
use Rattle.std.specs.Prelude.{◌≡◌, ◌⊎◌, ◌<◌, ℕ, List, Option, Some, None, Result, IfOk, IfSome}
use Rattle.command_words.specs.declared.options.SearchOptions.{SearchOptions}
use Rattle.lp_model.specs.Program.{Program}
use Rattle.search_answers.specs.declared.answers.Answer.{Answer}
use Rattle.search_answers.specs.declared.answers.Answer.TheVariants.{Memory}
use Rattle.lp_model.specs.Limits.{node_limit}
use Rattle.search_counting.specs.Work.{cap_of}
use Rattle.sound_searches.specs.Sound.{PlainSearch}
use Rattle.tree_search.specs.Enough.{IsEnough}
use Rattle.tree_search.specs.Solves.{Solved, SolvesModel, SolvesFrom, HasRayFrom}
use Rattle.tree_search.specs.Truth.{IsTrueAnswer, HasEnded}
use Rattle.tree_search.specs.declared.limits.Limits.{Limits}
use Rattle.kept_env.specs.Env.{PlainEnv, pool_in}
use Rattle.kept_env.specs.declared.env.EnvFault.{EnvFault}
use Rattle.kept_env.specs.Worked.{WorksEnv}
use Rattle.reply_texts.specs.Texts.{no_model_text, memory_text}
use Rattle.command_family.specs.State.{ShellState}
use Rattle.search_replies.specs.Showing.{AnswersBy, ShowsOptimumBy}
use Rattle.search_replies.specs.Workers.{Staffed}

-- how far a search goes with these options
abbrev pub limits_of : SearchOptions → Limits
limits_of options = record { nodes = options.nodes; pivots = options.pivots; tree = node_limit; workers = options.workers; seed = options.seed; gap = options.gap }

-- What is known where the model of an environment was solved: the search that the new one has, how it was had, and what of it is held; that
-- the answer is true of the model; and that it is the end, where there was enough of all.
pub record IsSolvedEnv (l : Limits) (old : PlainEnv) (result : Result Answer EnvFault) (new : PlainEnv) : Type 0 where
  pub solves : WorksEnv (SolvesFrom l) (HasRayFrom l) old.search old result new
  pub true_answer : IfOk result (λ answer. IfSome old.search (λ S. IsTrueAnswer S.model l answer))
  pub complete : IfOk result (λ answer. IfSome old.search (λ S. IsEnough S.model (pool_in new.search) l → HasEnded answer))

-- a new tree is too small where it may have fewer nodes than the most results
abbrev pub HasFewNodes : Program → Limits → Type 0
HasFewNodes M l = l.tree < cap_of M

-- the reply shows an optimum that a search from a fresh root found
abbrev pub ShowsOptimum : Program → Limits → List ℕ → PlainEnv → Type 0
ShowsOptimum M l reply env = ShowsOptimumBy (Solved M l) M l reply env

-- what a search from a fresh root may be answered; where there is no memory the search has the results that were placed, or is the old one
abbrev pub AnswersSolve : PlainSearch → Limits → List ℕ → PlainEnv → Type 0
AnswersSolve S l reply env = AnswersBy (Solved S.model l) (SolvesModel S.model l S Memory) (IsEnough S.model (pool_in env.search) l) (HasFewNodes S.model l) S.model l reply env

-- of the environment's search, if there is one
abbrev pub RepliesToSolve : PlainEnv → Option PlainSearch → Limits → List ℕ → PlainEnv → Type 0
RepliesToSolve old None l reply env = ((reply ≡ no_model_text) ⊎ (reply ≡ memory_text)) × (env ≡ old)
RepliesToSolve old (Some S) l reply env = AnswersSolve S l reply env

-- the files stay
pub record SolveStep (old : ShellState) (options : SearchOptions) (reply : List ℕ) (new : ShellState) : Type 0 where
  pub files : new.files ≡ old.files
  pub faults : new.faults ≡ old.faults
  pub answer : Staffed options.workers (RepliesToSolve old.env old.env.search (limits_of options) reply new.env) old.env reply new.env
