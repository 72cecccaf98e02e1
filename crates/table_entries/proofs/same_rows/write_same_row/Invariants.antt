use Rattle.std.proofs.Common.{◌≡◌, ◌≤◌, ◌<◌, ◌*◌, ◌+◌, ◌-◌, ℕ, false}
use Rattle.table_entries.specs.WholeSteps.{whole_number_at, AreShort, AreWritten}
use Rattle.table_entries.specs.private.Ways.{IsWay}
use Rattle.table_entries.proofs.same_rows.write_same_row.Given as goal

abbrev pub invariant-loop-at_place : goal.invariant-loop-at_place
invariant-loop-at_place l = record {
  within : l.at_place ≤ l.columns;
  written : AreWritten l.columns l.row l.place l.denominator l.denominator l.numbers l.unwritten l.next (l.at_row * l.columns + l.at_place);
  copied : (k : ℕ) → l.at_place ≤ k → k < l.columns → whole_number_at l.next (l.at_row * l.columns + k) ≡ whole_number_at l.numbers (l.at_row * l.columns + k);
  short : AreShort l.next;
  pivot : l.pivot ≡ whole_number_at l.numbers (l.row * l.columns + l.place);
  in_place : l.in_place ≡ whole_number_at l.numbers (l.at_row * l.columns + l.place);
  way : IsWay false l.denominator l.denominator l.pivot l.in_place l.way.factor l.way.scale l.way.divisor l.way.multiplier;
}

abbrev pub decreases-loop-at_place : goal.decreases-loop-at_place
decreases-loop-at_place l = l.columns - l.at_place
