use Rattle.std.proofs.Common.{◌≡◌, ◌<◌, ◌≤◌, ◌+◌, ◌*◌, ℕ, get_or}
use Rattle.table_entries.specs.WholeSteps.{whole_number_at}
use Rattle.table_entries.specs.Parts.{row_coefficient}
use Rattle.table_entries.specs.private.Parts.{IsRowTouched, combined, slot_number}
use Rattle.table_entries.proofs.parts.add_column.Given as goal

abbrev pub invariant-loop-place : goal.invariant-loop-place
invariant-loop-place l = record {
  touched : IsRowTouched l.columns l.row l.fn.entries l.entries;
  added : (k : ℕ) → k < l.place → whole_number_at l.entries.numbers (l.row * l.columns + k) ≡ combined (row_coefficient l.columns l.coefficients l.row) (λ j. slot_number l.rows l.columns l.fn.entries (get_or l.slots j 0) k) (l.column + 1);
  rest : (k : ℕ) → l.place ≤ k → k < l.columns → whole_number_at l.entries.numbers (l.row * l.columns + k) ≡ whole_number_at l.fn.entries.numbers (l.row * l.columns + k);
}
