use Rattle.std.proofs.Common.{◌≡◌, ◌<◌, ◌*◌, ◌+◌, ℕ, true, false}
use Rattle.table_entries.specs.WholeSteps.{AreShort, is_unwritten, whole_number_at}
use Rattle.table_entries.proofs.wholes.take_rows.Given as goal

abbrev pub invariant-loop-row : goal.invariant-loop-row
invariant-loop-row l = record {
  taken : (i k : ℕ) → i < l.row → k < l.columns → is_unwritten l.left i ≡ false → whole_number_at l.numbers (i * l.columns + k) ≡ whole_number_at l.next (i * l.columns + k);
  left : (i k : ℕ) → k < l.columns → is_unwritten l.left i ≡ true → whole_number_at l.numbers (i * l.columns + k) ≡ whole_number_at l.fn.numbers (i * l.columns + k);
  short : AreShort l.numbers;
}
