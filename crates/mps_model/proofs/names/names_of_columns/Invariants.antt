use Rattle.std.proofs.Common.{◌≡◌, take}
use Rattle.mps_sections.specs.Limits.{names_of_columns}
use Rattle.mps_model.proofs.names.names_of_columns.Given as goal

abbrev pub invariant-loop-column : goal.invariant-loop-column
invariant-loop-column l = l.names ≡ names_of_columns (take l.column-index l.columns)
