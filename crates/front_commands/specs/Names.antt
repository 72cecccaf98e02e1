-- The names by which the rows and columns of an inner model are told: behind those of the model itself stand those that a part adds.
use Rattle.std.specs.Prelude.{◌≡◌, ℕ, ◌<◌, ℤ, length}
use Rattle.lp_model.specs.Program.{Program}
use Rattle.lp_model.specs.Lawful.{row_name, column_name}
use Rattle.inner_models.specs.Inner.{bare_model}
use Rattle.wcn_driver.specs.declared.answers.Part.{Part}
use Rattle.wcn_driver.specs.Parts.{part_model}
use Rattle.command_files.specs.Checking.{inner_program}

-- each row and column of P has in W the same name at the same place
pub record HasNamesOf (P W : Program) : Type 0 where
  pub rows : (k : ℕ) → k < length P.rows → row_name W k ≡ row_name P k
  pub columns : (k : ℕ) → k < length P.cols → column_name W k ≡ column_name P k

-- so of each part, over whatever least values, in the model whose names are told
abbrev pub PartNamesLaw : Type 0
PartNamesLaw = (M : Program) (i1 i2 : ℤ) (part : Part) → HasNamesOf (part_model (bare_model M) i1 i2 part) (inner_program M)
