use Rattle.std.proofs.Common.{◌≡◌, List, [], map, take, length}
use Rattle.mps_sections.specs.Limits.{names_of_columns}
use Rattle.mps_sections.specs.declared.statements.ColumnLines.{ColumnLines}
use Rattle.mps_model.specs.Meaning.{span_of}
use Rattle.mps_model.proofs.spans.set_bounds.Given as goal

abbrev pub invariant-loop-bound : goal.invariant-loop-bound
invariant-loop-bound l = record {
  long : length l.spans ≡ length l.names.names;
  steps : (columns : List ColumnLines) → l.names.names ≡ names_of_columns columns → l.initial.spans ≡ map (span_of []) columns → l.spans ≡ map (span_of (take l.bound-index l.bounds)) columns;
}
