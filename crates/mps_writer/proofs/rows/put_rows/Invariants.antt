use Rattle.std.proofs.Common.{◌≡◌, ◌++◌, drop, map}
use Rattle.mps_writer.specs.Canonical.{row_line, written_text}
use Rattle.mps_writer.proofs.rows.put_rows.Given as goal

abbrev pub invariant-loop-row : goal.invariant-loop-row
invariant-loop-row l = l.fn.text.items ++ written_text (map row_line l.rows) ≡ l.text.items ++ written_text (map row_line (drop l.row-index l.rows))
