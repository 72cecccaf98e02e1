use Rattle.std.proofs.Common.{ℕ, ◌<◌}
use Rattle.table_entries.specs.WholeSteps.{whole_number_at}
use Rattle.basic_solution.specs.CutTotals.{IsColumnTotal}
use Rattle.basic_solution.proofs.sided.SidedBasis.write_totals.Given as goal

abbrev pub invariant-loop-column : goal.invariant-loop-column
invariant-loop-column l = record {
  each : (j : ℕ) → j < l.column → IsColumnTotal l.self j l.denominator (whole_number_at l.totals j);
}
