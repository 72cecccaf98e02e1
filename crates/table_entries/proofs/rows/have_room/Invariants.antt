use Rattle.std.proofs.Common.{◌<◌, ℕ}
use Rattle.frac128.specs.Range.{Fits}
use Rattle.table_entries.specs.FlatSteps.{dense_entry}
use Rattle.table_entries.proofs.rows.have_room.Given as goal

abbrev pub invariant-loop-place : goal.invariant-loop-place
invariant-loop-place l = record {
  fits : (k : ℕ) → k < l.place → Fits (dense_entry l.columns l.entries l.row k);
}
