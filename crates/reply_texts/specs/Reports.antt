-- What an answer has to be for its text, and what is known of its numbers.
use Rattle.std.specs.Prelude.{◌≡◌, ◌<◌, ◌^◌, length}
use Rattle.std.specs.List.{All}
use Rattle.frac128.specs.Range.{Fits}
use Rattle.lp_model.specs.Program.{Program, value}
use Rattle.search_answers.specs.declared.answers.Answer.{Answer}
use Rattle.search_answers.specs.declared.answers.Answer.TheVariants.{Optimal, Within, Infeasible, Unbounded, Stopped, Memory}

-- a point has a number for each column, and its value
abbrev pub AnswerIsShaped : Program → Answer → Type 0
AnswerIsShaped M (Optimal v x n) = (length x ≡ length M.cols) × (v ≡ value M 1 x)
AnswerIsShaped M (Within g v x n) = (length x ≡ length M.cols) × (v ≡ value M 1 x)
AnswerIsShaped M (Infeasible n) = Unit {0}
AnswerIsShaped M (Unbounded n) = Unit {0}
AnswerIsShaped M (Stopped why n bound best) = Unit {0}
AnswerIsShaped M Memory = Unit {0}

-- the numbers of a point have room in fractions of 128 bits, and the count of results in 64
abbrev pub AnswerHasRoom : Answer → Type 0
AnswerHasRoom (Optimal v x n) = Fits v × (All Fits x × (n < 2 ^ 64))
AnswerHasRoom (Within g v x n) = Fits g × (Fits v × (All Fits x × (n < 2 ^ 64)))
AnswerHasRoom (Infeasible n) = Unit {0}
AnswerHasRoom (Unbounded n) = Unit {0}
AnswerHasRoom (Stopped why n bound best) = Unit {0}
AnswerHasRoom Memory = Unit {0}
