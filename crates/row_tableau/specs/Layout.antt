-- What a tableau keeps: its lists, and entries of which some rows may not be written.
use Rattle.std.specs.Prelude.{◌≡◌, ℕ, List, get_or}
use Rattle.table_entries.specs.Parts.{Parts, filled, AreColumnsWritten}
use Rattle.row_tableau.specs.Dense.{IsShaped}

-- the slot of each variable
abbrev pub variable_slots : List ℕ → ℕ → ℕ
variable_slots positions j = get_or positions j 0

-- all entries with the other lists are of the right shape, and each column that is basic is so in a row that is written
pub record IsLaidOut (columns rows activities : ℕ) (variables positions : List ℕ) (entries : Parts) : Type 0 where
  pub shape : IsShaped columns rows activities variables positions (filled entries (variable_slots positions))
  pub entry_columns : entries.columns ≡ columns
  pub entry_rows : entries.rows ≡ activities
  pub columns_written : AreColumnsWritten entries (variable_slots positions)
