use Rattle.std.proofs.Common.{◌≡◌, ◌++◌, drop}
use Rattle.std.specs.Prelude.{flat_map}
use Rattle.mps_writer.specs.Canonical.{bound_lines, written_text}
use Rattle.mps_writer.proofs.columns.put_bounds.Given as goal

abbrev pub invariant-loop-column : goal.invariant-loop-column
invariant-loop-column l = l.fn.text.items ++ written_text (flat_map bound_lines l.columns) ≡ l.text.items ++ written_text (flat_map bound_lines (drop l.column-index l.columns))
