use Rattle.std.proofs.Common.{ℕ, ◌<◌}
use Rattle.table_entries.specs.WholeSteps.{whole_number_at}
use Rattle.basic_solution.specs.RowTotals.{IsSmallNumber}
use Rattle.basic_solution.proofs.kept_values.are_all_small.Given as goal

abbrev pub invariant-loop-at : goal.invariant-loop-at
invariant-loop-at l = (j : ℕ) → j < l.at → IsSmallNumber (whole_number_at l.numbers j)
