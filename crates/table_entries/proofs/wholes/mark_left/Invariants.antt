use Rattle.table_entries.specs.private.LeftRows.{AreLeft}
use Rattle.table_entries.proofs.wholes.mark_left.Given as goal

abbrev pub invariant-loop-at_row : goal.invariant-loop-at_row
invariant-loop-at_row l = record {
  marked : AreLeft l.at_row l.columns l.row l.place l.numbers l.unwritten l.left;
}
