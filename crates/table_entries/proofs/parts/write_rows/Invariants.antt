use Rattle.std.proofs.Common.{◌≡◌, ◌<◌, ℕ, get_or, length, true, false}
use Rattle.table_entries.specs.WholeSteps.{is_unwritten}
use Rattle.table_entries.specs.Parts.{any_entry}
use Rattle.table_entries.specs.private.Parts.{IsLight}
use Rattle.table_entries.proofs.parts.write_rows.Given as goal

abbrev pub invariant-loop-row : goal.invariant-loop-row
invariant-loop-row l = record {
  size : length l.entries.list ≡ length l.fn.entries.list;
  light : (i : ℕ) → i < l.rows → is_unwritten l.unwritten i ≡ true → IsLight l.rows l.columns l.entries l.coefficients (λ j. get_or l.slots j 0) i;
  columns_written : (j : ℕ) → j < l.columns → get_or l.slots j 0 < l.rows → is_unwritten l.unwritten (get_or l.slots j 0) ≡ false;
  same : (i k : ℕ) → i < l.rows → k < l.columns → any_entry l.rows l.columns l.coefficients (λ j. get_or l.slots j 0) l.unwritten l.entries.list i k ≡ any_entry l.rows l.columns l.coefficients (λ j. get_or l.slots j 0) l.fn.unwritten l.fn.entries.list i k;
  written : (i : ℕ) → i < l.row → is_unwritten l.unwritten i ≡ false;
}
