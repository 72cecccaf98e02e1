use Rattle.std.proofs.Common.{◌≡◌, ◌≢◌, ◌<◌, ℕ}
use Rattle.table_entries.specs.FlatSteps.{dense_entry}
use Rattle.table_entries.proofs.rows.take_row.Given as goal

abbrev pub invariant-loop-place : goal.invariant-loop-place
invariant-loop-place l = record {
  taken : (k : ℕ) → k < l.place → dense_entry l.columns l.entries l.row k ≡ dense_entry l.columns l.next l.row k;
  others : (i k : ℕ) → i ≢ l.row → k < l.columns → dense_entry l.columns l.entries i k ≡ dense_entry l.columns l.fn.entries i k;
}
