use Rattle.std.proofs.Common.{◌≡◌, ◌++◌, drop}
use Rattle.std.specs.Prelude.{flat_map}
use Rattle.mps_writer.specs.Canonical.{rhs_line, written_text}
use Rattle.mps_writer.proofs.rows.put_right_sides.Given as goal

abbrev pub invariant-loop-row : goal.invariant-loop-row
invariant-loop-row l = l.fn.text.items ++ written_text (flat_map rhs_line l.rows) ≡ l.text.items ++ written_text (flat_map rhs_line (drop l.row-index l.rows))
