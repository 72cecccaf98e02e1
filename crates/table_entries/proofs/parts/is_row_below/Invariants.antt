use Rattle.std.proofs.Common.{◌<◌, ◌+◌, ◌*◌, ◌<ℤ◌, ℕ}
use Rattle.table_entries.specs.WholeSteps.{magnitude, whole_number_at}
use Rattle.table_entries.proofs.parts.is_row_below.Given as goal

abbrev pub invariant-loop-place : goal.invariant-loop-place
invariant-loop-place l = record {
  within : (k : ℕ) → k < l.place → magnitude (whole_number_at l.entries.numbers (l.row * l.columns + k)) <ℤ l.limit;
}
