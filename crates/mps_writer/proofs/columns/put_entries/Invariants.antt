use Rattle.std.proofs.Common.{◌≡◌, ◌++◌, drop, map}
use Rattle.frac128.specs.Rational.{ℚ}
use Rattle.lp_model.specs.Lawful.{row_name}
use Rattle.lp_model.specs.declared.types.RowId.{RowId}
use Rattle.mps_writer.specs.Canonical.{entry_line, written_text}
use Rattle.mps_writer.proofs.columns.put_entries.Given as goal

abbrev pub invariant-loop-entry : goal.invariant-loop-entry
invariant-loop-entry l =
    l.fn.text.items ++ written_text (map (λ (e : RowId × ℚ). entry_line l.column.name (row_name l.model e.0.0) e.1) l.entries)
    ≡ l.text.items ++ written_text (map (λ (e : RowId × ℚ). entry_line l.column.name (row_name l.model e.0.0) e.1) (drop l.entry-index l.entries))
