-- What the reply to a command of bounds shows.
use Rattle.std.specs.Prelude.{◌≡◌, ℕ, List, Some, None}
use Rattle.frac128.specs.Rational.{ℚ}
use Rattle.lp_model.specs.Program.{Program, in_own_sense}
use Rattle.dual_bounds.specs.declared.answers.LowerBound.{LowerBound}
use Rattle.dual_bounds.specs.declared.answers.LowerBound.TheVariants as lower
use Rattle.dual_bounds.specs.declared.answers.UpperBound.{UpperBound}
use Rattle.dual_bounds.specs.declared.answers.UpperBound.TheVariants as upper
use Rattle.reply_texts.specs.Texts.{bound_text, no_point_text, wide_bound_text}
use Rattle.shell_replies.specs.Shown.{value_shown}

-- the number stands behind `bound`, read from the reply's bytes alone
pub record ShowsNumber (w : ℚ) (reply : List ℕ) : Type 0 where
  pub shown : value_shown reply ≡ Some w
  pub told : reply ≡ bound_text (Some w)

-- the reply is the text of the bound: its number in the sense of the model M, whose names a step is told by
abbrev pub IsLowerTold : Program → LowerBound → List ℕ → Type 0
IsLowerTold M (lower.Value v) reply = ShowsNumber (in_own_sense M.sense v) reply
IsLowerTold M lower.NoValue reply = reply ≡ bound_text None
IsLowerTold M lower.Infeasible reply = reply ≡ no_point_text
IsLowerTold M (lower.Wide leaf at_) reply = reply ≡ wide_bound_text M leaf at_

abbrev pub IsUpperTold : Program → UpperBound → List ℕ → Type 0
IsUpperTold M (upper.Value v) reply = ShowsNumber (in_own_sense M.sense v) reply
IsUpperTold M upper.NoValue reply = reply ≡ bound_text None
