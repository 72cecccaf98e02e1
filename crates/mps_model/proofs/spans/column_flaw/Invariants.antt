use Rattle.std.proofs.Common.{◌≡◌, List, map, drop}
use Rattle.mps_sections.specs.declared.statements.BoundLine.{BoundLine}
use Rattle.mps_model.specs.Meaning.{span_of}
use Rattle.mps_model.specs.Faults.{column_flaw}
use Rattle.mps_model.proofs.spans.column_flaw.Given as goal

abbrev pub invariant-loop-place : goal.invariant-loop-place
invariant-loop-place l = (bounds : List BoundLine) → l.spans ≡ map (span_of bounds) l.columns → column_flaw l.intupper bounds l.columns ≡ column_flaw l.intupper bounds (drop l.place l.columns)
