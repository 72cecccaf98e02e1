use Rattle.std.proofs.Common.{◌≡◌, ◌<◌, ◌≤◌, ℕ, length, get_or, pos, vec_capacity}
use Rattle.frac128.specs.Rational.{int}
use Rattle.table_entries.specs.WholeSteps.{whole_number_at}
use Rattle.table_entries.specs.Listed.{IsShortWhole}
use Rattle.table_entries.proofs.table_entries.whole_numbers.Given as goal

abbrev pub invariant-loop-at : goal.invariant-loop-at
invariant-loop-at l = record {
  size : length l.numbers.items ≡ l.at;
  room : length l.fractions ≤ vec_capacity l.numbers;
  whole : (at : ℕ) → at < l.at → IsShortWhole (get_or l.fractions at (int (pos 0)));
  items : (at : ℕ) → at < l.at → whole_number_at l.numbers.items at ≡ (get_or l.fractions at (int (pos 0))).num;
}
