-- What the code answers that checks and makes edits.
use Rattle.std.specs.Prelude.{◌≡◌, ℕ, List, Option, Result, Ok, Err}
use Rattle.frac128.specs.Rational.{ℚ}
use Rattle.lp_model.specs.Program.{Program}
use Rattle.lp_model.specs.Edits.{Named, IsPlaceOf, only_row_names, edited, EditFits}
use Rattle.lp_model.specs.declared.types.Col.{Col}
use Rattle.lp_model.specs.declared.types.Edit.{Edit}
use Rattle.lp_model.specs.declared.types.Edit.TheVariants.{ReplaceRow}
use Rattle.model_edits.specs.Faults.{IsEditFault}
use Rattle.model_edits.specs.declared.faults.EditFault.{EditFault}

-- nothing is wrong with the edit, or its fault
abbrev pub IsEditCheck : Program → Edit → Result (Unit {0}) EditFault → Type 0
IsEditCheck M e (Ok done) = EditFits M e
IsEditCheck M e (Err f) = IsEditFault M e f

-- the same, with the place of the name among names
abbrev pub IsPlaceCheck : Program → Edit → List (List ℕ) → List ℕ → Result ℕ EditFault → Type 0
IsPlaceCheck M e names name (Ok k) = EditFits M e × IsPlaceOf names name k
IsPlaceCheck M e names name (Err f) = IsEditFault M e f

-- the same of another row in the place of one, with its place and the columns with its coefficients
abbrev pub IsReplacementCheck : Program → List ℕ → Option ℚ → Option ℚ → Named → Result (ℕ × List Col) EditFault → Type 0
IsReplacementCheck M name lo hi named (Ok found) =
    EditFits M (ReplaceRow name lo hi named) × IsPlaceOf (only_row_names M) name found.0 × (found.1 ≡ (edited M (ReplaceRow name lo hi named)).cols)
IsReplacementCheck M name lo hi named (Err f) = IsEditFault M (ReplaceRow name lo hi named) f

-- the edited model, or the fault and the model as it was
abbrev pub IsEditAnswer : Program → Edit → Result (Unit {0}) EditFault → Program → Type 0
IsEditAnswer M e (Ok done) N = EditFits M e × (N ≡ edited M e)
IsEditAnswer M e (Err f) N = IsEditFault M e f × (N ≡ M)
