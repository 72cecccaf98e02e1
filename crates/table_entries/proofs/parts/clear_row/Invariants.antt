use Rattle.std.proofs.Common.{◌≡◌, ◌<◌, ◌+◌, ◌*◌, ℕ, pos}
use Rattle.table_entries.specs.WholeSteps.{whole_number_at}
use Rattle.table_entries.specs.private.Parts.{IsRowTouched}
use Rattle.table_entries.proofs.parts.clear_row.Given as goal

abbrev pub invariant-loop-place : goal.invariant-loop-place
invariant-loop-place l = record {
  touched : IsRowTouched l.columns l.row l.fn.entries l.entries;
  written : (k : ℕ) → k < l.place → whole_number_at l.entries.numbers (l.row * l.columns + k) ≡ pos 0;
}
