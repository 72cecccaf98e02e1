-- Room for the rows and the column of an inner model.
--     HasInnerRoom N       N is no larger than a model that was not widened
--     HasFittingEdits N    nothing is wrong with the edits that make the inner models of N, whatever its first objective becomes
use Rattle.std.specs.Prelude.{◌≡◌, length, true, false, ℤ}
use Rattle.frac128.specs.Rational.{ℚ}
use Rattle.lp_model.specs.Program.{Program}
use Rattle.lp_model.specs.Lawful.{AreWithinLimits, IsLawful, entry_count}
use Rattle.lp_model.specs.Edits.{edited, EditFits}
use Rattle.lp_model.specs.declared.types.Col.{Col}
use Rattle.inner_models.specs.Inner.{bare_model, with_objective, g1_name, g2_name, row_terms, row_terms_less_z, capped, width_column}

abbrev pub HasInnerRoom : Program → Type 0
HasInnerRoom N = AreWithinLimits false (length N.rows) (length N.cols) (entry_count N)

-- a row over the columns and one behind it; the column Z; a row less Z and one behind it
pub record HasFittingEdits (N : Program) : Type 0 where
  pub plain : (side : ℚ) (f : Col → ℚ) → EditFits N (capped (g1_name N) side (row_terms f N))
  pub row : (g : Col → ℚ) (side : ℚ) (f : Col → ℚ) → EditFits (with_objective g N) (capped (g1_name N) side (row_terms f N))
  pub second :
      (g : Col → ℚ) (side side2 : ℚ) (f f2 : Col → ℚ)
      → EditFits (edited (with_objective g N) (capped (g1_name N) side (row_terms f N))) (capped (g2_name N) side2 (row_terms f2 N))
  pub column : (g : Col → ℚ) (width : ℤ) → EditFits (with_objective g N) (width_column N width)
  pub gap_row :
      (g : Col → ℚ) (width : ℤ) (side : ℚ) (f : Col → ℚ)
      → EditFits (edited (with_objective g N) (width_column N width)) (capped (g1_name N) side (row_terms_less_z f N))
  pub second_gap :
      (g : Col → ℚ) (width : ℤ) (side side2 : ℚ) (f f2 : Col → ℚ)
      → EditFits (edited (edited (with_objective g N) (width_column N width)) (capped (g1_name N) side (row_terms_less_z f N))) (capped (g2_name N) side2 (row_terms_less_z f2 N))

-- a widened model that is no larger than others has room, and so has each model in least form
abbrev pub FittingEditsLaw : Type 0
FittingEditsLaw = (N : Program) → N.wide ≡ true → HasInnerRoom N → HasFittingEdits N

abbrev pub BareRoomLaw : Type 0
BareRoomLaw = (M : Program) → M.wide ≡ false → IsLawful M → HasInnerRoom (bare_model M)
