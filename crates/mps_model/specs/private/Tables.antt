-- What a table of rows holds.
use Rattle.std.specs.Prelude.{◌≡◌, length}
use Rattle.mps_sections.specs.Statements.{stated_row_names}
use Rattle.mps_sections.specs.declared.statements.Sections.{Sections}
use Rattle.mps_model.specs.Meaning.{row_numbers_beside}
use Rattle.mps_model.specs.declared.row_table.RowTable.{RowTable}

-- the names of the rows, and the number of RHS beside each
pub record IsRowTableOf (s : Sections) (t : RowTable) : Type 0 where
  pub names : t.names.names ≡ stated_row_names s.rows
  pub numbers : t.numbers.items ≡ row_numbers_beside (stated_row_names s.rows) s.sides
  pub names_sized : length t.names.names ≡ length s.rows
  pub numbers_sized : length t.numbers.items ≡ length s.rows
