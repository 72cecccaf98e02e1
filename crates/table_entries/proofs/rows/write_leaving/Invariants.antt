use Rattle.std.proofs.Common.{◌≡◌, ◌<◌, ◌*◌, ◌+◌, ℕ, pos, get_or}
use Rattle.frac128.specs.Rational.{int}
use Rattle.table_entries.specs.Relaxation.{pivoted_entry}
use Rattle.table_entries.specs.Steps.{EntryFits}
use Rattle.table_entries.specs.FlatSteps.{dense_entry}
use Rattle.table_entries.proofs.rows.write_leaving.Given as goal

abbrev pub invariant-loop-at_place : goal.invariant-loop-at_place
invariant-loop-at_place l = record {
  written : (k : ℕ) → k < l.at_place → get_or l.next (l.row * l.columns + k) (int (pos 0)) ≡ pivoted_entry (dense_entry l.columns l.entries) l.row l.place l.row k;
  fits : (k : ℕ) → k < l.at_place → EntryFits (dense_entry l.columns l.entries) l.row l.place l.row k;
  pivot : l.pivot ≡ get_or l.entries (l.row * l.columns + l.place) (int (pos 0));
}
