use Rattle.std.proofs.Common.{◌≡◌, ◌<◌, ◌*◌, ◌+◌, ℕ, pos, get_or}
use Rattle.frac128.specs.Rational.{int}
use Rattle.table_entries.specs.Relaxation.{pivoted_entry}
use Rattle.table_entries.specs.Steps.{EntryFits}
use Rattle.table_entries.specs.FlatSteps.{dense_entry}
use Rattle.table_entries.specs.private.RowSteps.{IsLeftAlone}
use Rattle.table_entries.proofs.rows.write_by_rows.Given as goal

abbrev pub invariant-loop-at_row : goal.invariant-loop-at_row
invariant-loop-at_row l = record {
  leaving : (k : ℕ) → k < l.columns → get_or l.next (l.row * l.columns + k) (int (pos 0)) ≡ pivoted_entry (dense_entry l.columns l.entries) l.row l.place l.row k;
  leaving_fits : (k : ℕ) → k < l.columns → EntryFits (dense_entry l.columns l.entries) l.row l.place l.row k;
  written : (i k : ℕ) → i < l.at_row → k < l.columns → ¬ (IsLeftAlone (dense_entry l.columns l.entries) l.row l.place i) → get_or l.next (i * l.columns + k) (int (pos 0)) ≡ pivoted_entry (dense_entry l.columns l.entries) l.row l.place i k;
  fits : (i k : ℕ) → i < l.at_row → k < l.columns → EntryFits (dense_entry l.columns l.entries) l.row l.place i k;
}
