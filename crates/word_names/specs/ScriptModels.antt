-- Models that scripts may have: what `load`, `edit` and `restore` leave.
--     is_lawful_name name    1 to 255 bytes from `!` to `~`
--     is_far bound           there is a bound, and its magnitude is 10^20 or more
--     IsScriptModel M        each name is lawful, no bound is far, and the model is not widened
use Rattle.std.specs.Prelude.{◌≡◌, Bool, true, false, ◌||◌, All, Option, Some, None}
use Rattle.frac128.specs.Rational.{ℚ, neg_ℚ, rational_le}
use Rattle.frac_text.specs.Sides.{far}
use Rattle.lp_model.specs.Program.{Program}
use Rattle.lp_model.specs.Lawful.{row_names}
use Rattle.lp_model.specs.Names.{is_lawful_name}
use Rattle.word_names.specs.WordNames.{HasWordNames}

-- the magnitude is 10^20 or more
abbrev pub is_far : Option ℚ → Bool
is_far None = false
is_far (Some x) = rational_le far x || rational_le x (neg_ℚ far)

-- the names of the rows are those of the objectives too
pub record IsScriptModel (M : Program) : Type 0 where
  pub row_names : All (λ name. is_lawful_name name ≡ true) (row_names M)
  pub column_names : All (λ c. is_lawful_name c.name ≡ true) M.cols
  pub bounds : All (λ c. (is_far c.lo ≡ false) × (is_far c.up ≡ false)) M.cols
  pub plain : M.wide ≡ false

-- the names of such a model are words of a line
abbrev pub ScriptNamesLaw : Type 0
ScriptNamesLaw = (M : Program) → IsScriptModel M → HasWordNames M
