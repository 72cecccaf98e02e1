-- The bounds that edits bring.
use Rattle.std.specs.Prelude.{◌≡◌, false, Option}
use Rattle.frac128.specs.Rational.{ℚ}
use Rattle.text_lines.specs.Words.{Words}
use Rattle.lp_model.specs.declared.types.Edit.{Edit}
use Rattle.lp_model.specs.declared.types.Edit.TheVariants.{SetCost, SetCost2, SetRow, SetColBounds, SetKind, AddCol, DelCol, AddRow, DelRow, ReplaceRow}
use Rattle.lp_model.specs.Edits.{edited}
use Rattle.lp_model.specs.Program.{Program}
use Rattle.word_names.specs.ScriptModels.{is_far, IsScriptModel}
use Rattle.edit_words.specs.EditWords.{Edits, edit_asks}
use Rattle.edit_words.specs.NewNames.{BringsName, IsNewName}

-- each bound that the edit brings is so
abbrev pub BringsBounds : (Option ℚ → Type 0) → Edit → Type 0
BringsBounds P (SetCost col v) = Unit {0}
BringsBounds P (SetCost2 col v) = Unit {0}
BringsBounds P (SetRow row lo hi) = Unit {0}
BringsBounds P (SetColBounds col lo up) = P lo × P up
BringsBounds P (SetKind col integer) = Unit {0}
BringsBounds P (AddCol name integer lo up cost cost2 named) = P lo × P up
BringsBounds P (DelCol col) = Unit {0}
BringsBounds P (AddRow name lo hi named) = Unit {0}
BringsBounds P (DelRow row) = Unit {0}
BringsBounds P (ReplaceRow row lo hi named) = Unit {0}

-- none, or below 10^20 in magnitude
abbrev pub IsNearBound : Option ℚ → Type 0
IsNearBound bound = is_far bound ≡ false

-- an edit that words ask for brings no other name and no other bound
abbrev pub NewPartsLaw : Type 0
NewPartsLaw = (words : Words) (e : Edit) → edit_asks words ≡ Edits e → BringsName IsNewName e × BringsBounds IsNearBound e

-- and a model that scripts may have stays one under an edit that brings no other
abbrev pub EditedModelLaw : Type 0
EditedModelLaw = (M : Program) (e : Edit) → BringsName IsNewName e → BringsBounds IsNearBound e → IsScriptModel M → IsScriptModel (edited M e)
