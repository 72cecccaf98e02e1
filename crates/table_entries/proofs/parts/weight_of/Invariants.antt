use Rattle.std.proofs.Common.{◌≡◌, ◌<◌}
use Rattle.table_entries.specs.Parts.{row_coefficient, weight}
use Rattle.table_entries.proofs.parts.weight_of.Given as goal

abbrev pub invariant-loop-column : goal.invariant-loop-column
invariant-loop-column l = record {
  sum : weight (row_coefficient l.columns l.coefficients l.row) l.column ≡ l.weight;
  small : l.weight < 64;
}
