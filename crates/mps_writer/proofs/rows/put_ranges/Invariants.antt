use Rattle.std.proofs.Common.{◌≡◌, ◌++◌, drop}
use Rattle.std.specs.Prelude.{flat_map}
use Rattle.mps_writer.specs.Canonical.{range_line, written_text}
use Rattle.mps_writer.proofs.rows.put_ranges.Given as goal

abbrev pub invariant-loop-row : goal.invariant-loop-row
invariant-loop-row l = l.fn.text.items ++ written_text (flat_map range_line l.rows) ≡ l.text.items ++ written_text (flat_map range_line (drop l.row-index l.rows))
