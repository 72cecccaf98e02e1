-- How what was found of a front is told, of the model that the environment has.
use Rattle.std.specs.Prelude.{ℕ, ◌<◌, ◌^◌, List, length, Option, Some, None, Result, Ok, Err, IfOk, IfSome}
use Rattle.lp_model.specs.Limits.{node_limit}
use Rattle.lp_model.specs.Program.{Program}
use Rattle.kept_env.specs.Env.{PlainEnv}
use Rattle.kept_env.specs.declared.env.EnvFault.{EnvFault}
use Rattle.tree_search.specs.declared.limits.Limits.{Limits}
use Rattle.reply_texts.specs.Texts.{infeasible_text, not_whole_text, no_model_text, memory_text}
use Rattle.command_files.specs.Checking.{inner_program}
use Rattle.front_replies.specs.FrontReplies.{complete_front_text, stopped_front_text, wide_front_text}
use Rattle.front_search.specs.declared.answers.FrontAnswer.{FrontAnswer}
use Rattle.front_search.specs.declared.answers.FrontAnswer.TheVariants as found
use Rattle.front_search.specs.FrontsFound.{FindsFront}
use Rattle.front_search.specs.Completeness.{counted_results, HasFrontEnded, IsFrontEnough}

-- how far a search for a front goes: so many results in all parts together, and so many simplex steps in each relaxation, by one worker
abbrev pub front_limits : ℕ → ℕ → Limits
front_limits nodes pivots = record { nodes = nodes; pivots = pivots; tree = node_limit; workers = 1; seed = 0; gap = None }

-- what is known where the front of an environment's model was looked for: what was found, and that it is the end, where there was enough of all
pub record IsLookedFor (l : Limits) (old : PlainEnv) (result : Result FrontAnswer EnvFault) (new : PlainEnv) : Type 0 where
  pub finds : FindsFront l old.search old result new
  pub complete : IfOk result (λ answer. IfSome old.search (λ S. IsFrontEnough l S.model (counted_results answer) → HasFrontEnded answer))

-- an answer is of the model that is there
abbrev pub IsOfModel : Result FrontAnswer EnvFault → Option Program → Type 0
IsOfModel (Ok answer) None = ⊥
IsOfModel (Ok answer) (Some M) = Unit {0}
IsOfModel (Err f) model = Unit {0}

-- outcomes are counted in 64 bits
abbrev pub FrontHasRoom : FrontAnswer → Type 0
FrontHasRoom (found.Complete front) = length front < 2 ^ 64
FrontHasRoom (found.Infeasible results) = Unit {0}
FrontHasRoom (found.Stopped front part why results bound best) = length front < 2 ^ 64
FrontHasRoom (found.NotWhole which col) = Unit {0}
FrontHasRoom (found.WideScale front part place) = length front < 2 ^ 64
FrontHasRoom found.Memory = Unit {0}

-- rows and columns of a part are told by their names in an inner model
abbrev pub front_answer_text : Program → FrontAnswer → List ℕ
front_answer_text M (found.Complete front) = complete_front_text front
front_answer_text M (found.Infeasible results) = infeasible_text results
front_answer_text M (found.Stopped front part why results bound best) = stopped_front_text (inner_program M) front part why results bound best
front_answer_text M (found.NotWhole which col) = not_whole_text M which col
front_answer_text M (found.WideScale front part place) = wide_front_text M front part place
front_answer_text M found.Memory = memory_text

-- the text of the answer, or that there is no model
abbrev pub front_text : Result FrontAnswer EnvFault → Option Program → List ℕ
front_text (Ok answer) None = no_model_text
front_text (Ok answer) (Some M) = front_answer_text M answer
front_text (Err f) model = no_model_text
