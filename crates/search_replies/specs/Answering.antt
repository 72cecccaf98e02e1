-- How what a search has answered is told, of the model that the environment has.
use Rattle.std.specs.Prelude.{ℕ, List, Option, Some, None, Result, Ok, Err}
use Rattle.lp_model.specs.Lawful.{IsLawful}
use Rattle.lp_model.specs.Program.{Program}
use Rattle.search_answers.specs.declared.answers.Answer.{Answer}
use Rattle.kept_env.specs.declared.env.EnvFault.{EnvFault}
use Rattle.reply_texts.specs.Reports.{AnswerIsShaped, AnswerHasRoom}
use Rattle.reply_texts.specs.Texts.{answer_text, no_model_text}

-- an answer is of the model that is there: an optimum has a number for each column, and its value
abbrev pub IsAnswerOf : Result Answer EnvFault → Option Program → Type 0
IsAnswerOf (Ok answer) None = ⊥
IsAnswerOf (Ok answer) (Some M) = AnswerIsShaped M answer
IsAnswerOf (Err f) model = Unit {0}

-- the model is lawful, and the numbers of the answer have room
abbrev pub IsTellable : Result Answer EnvFault → Option Program → Type 0
IsTellable (Ok answer) None = ⊥
IsTellable (Ok answer) (Some M) = IsLawful M × AnswerHasRoom answer
IsTellable (Err f) model = Unit {0}

-- the text of the answer, or that there is no model
abbrev pub search_text : Result Answer EnvFault → Option Program → List ℕ
search_text (Ok answer) None = no_model_text
search_text (Ok answer) (Some M) = answer_text M answer
search_text (Err f) model = no_model_text
