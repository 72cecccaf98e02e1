use Rattle.std.proofs.Common.{◌≡◌, take}
use Rattle.mps_sections.specs.Statements.{stated_row_names}
use Rattle.mps_model.proofs.names.names_of_rows.Given as goal

abbrev pub invariant-loop-row : goal.invariant-loop-row
invariant-loop-row l = l.names ≡ stated_row_names (take l.row-index l.rows)
