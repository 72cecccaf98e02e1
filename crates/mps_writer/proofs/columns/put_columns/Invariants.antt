use Rattle.std.proofs.Common.{◌≡◌, ◌++◌, drop}
use Rattle.std.specs.Prelude.{flat_map}
use Rattle.mps_writer.specs.Canonical.{column_lines, written_text}
use Rattle.mps_writer.proofs.columns.put_columns.Given as goal

abbrev pub invariant-loop-column : goal.invariant-loop-column
invariant-loop-column l = l.fn.text.items ++ written_text (flat_map (column_lines l.model) l.columns) ≡ l.text.items ++ written_text (flat_map (column_lines l.model) (drop l.column-index l.columns))
