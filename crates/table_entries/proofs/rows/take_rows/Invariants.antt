use Rattle.std.proofs.Common.{◌≡◌, ◌<◌, ◌≤◌, ℕ}
use Rattle.table_entries.specs.FlatSteps.{dense_entry}
use Rattle.table_entries.specs.private.RowSteps.{IsTakenRow}
use Rattle.table_entries.proofs.rows.take_rows.Given as goal

abbrev pub invariant-loop-at_row : goal.invariant-loop-at_row
invariant-loop-at_row l = record {
  before : (i : ℕ) → i < l.at_row → IsTakenRow l.columns (dense_entry l.columns l.fn.entries) l.row l.place l.next l.entries i;
  after : (i k : ℕ) → l.at_row ≤ i → k < l.columns → dense_entry l.columns l.entries i k ≡ dense_entry l.columns l.fn.entries i k;
}
