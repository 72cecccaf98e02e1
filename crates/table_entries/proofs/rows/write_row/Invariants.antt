use Rattle.std.proofs.Common.{◌≡◌, ◌≢◌, ◌<◌, ◌*◌, ◌+◌, ℕ, pos, get_or}
use Rattle.frac128.specs.Rational.{int}
use Rattle.table_entries.specs.Relaxation.{pivoted_entry}
use Rattle.table_entries.specs.Steps.{EntryFits}
use Rattle.table_entries.specs.FlatSteps.{dense_entry}
use Rattle.table_entries.proofs.rows.write_row.Given as goal

abbrev pub invariant-loop-at_place : goal.invariant-loop-at_place
invariant-loop-at_place l = record {
  written : (k : ℕ) → k < l.at_place → get_or l.next (l.at_row * l.columns + k) (int (pos 0)) ≡ pivoted_entry (dense_entry l.columns l.entries) l.row l.place l.at_row k;
  fits : (k : ℕ) → k < l.at_place → EntryFits (dense_entry l.columns l.entries) l.row l.place l.at_row k;
  others : (i k : ℕ) → i ≢ l.at_row → k < l.columns → get_or l.next (i * l.columns + k) (int (pos 0)) ≡ get_or l.fn.next (i * l.columns + k) (int (pos 0));
  pivot : l.pivot ≡ get_or l.entries (l.row * l.columns + l.place) (int (pos 0));
  in_place : l.in_place ≡ get_or l.entries (l.at_row * l.columns + l.place) (int (pos 0));
}
