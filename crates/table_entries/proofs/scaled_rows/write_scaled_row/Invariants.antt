use Rattle.std.proofs.Common.{◌≡◌, ◌*◌, ◌+◌, false, pos}
use Rattle.table_entries.specs.WholeSteps.{whole_number_at, AreShort, AreWritten}
use Rattle.table_entries.specs.private.Ways.{IsWay}
use Rattle.table_entries.proofs.scaled_rows.write_scaled_row.Given as goal

abbrev pub invariant-loop-at_place : goal.invariant-loop-at_place
invariant-loop-at_place l = record {
  written : AreWritten l.columns l.row l.place l.denominator l.after l.numbers l.unwritten l.next (l.at_row * l.columns + l.at_place);
  short : AreShort l.next;
  pivot : l.pivot ≡ whole_number_at l.numbers (l.row * l.columns + l.place);
  in_place : l.in_place ≡ whole_number_at l.numbers (l.at_row * l.columns + l.place);
  way : IsWay false l.denominator l.after l.pivot l.in_place l.way.factor l.way.scale l.way.divisor l.way.multiplier;
  factor : l.way.factor ≡ pos 0;
}
