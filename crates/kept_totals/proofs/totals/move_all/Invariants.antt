use Rattle.std.proofs.Common.{◌≡◌, ℕ, ◌<◌, ◌≤◌, get_or, pos}
use Rattle.frac128.specs.Rational.{int, ◌+ℚ◌, ◌*ℚ◌}
use Rattle.kept_totals.proofs.totals.move_all.Given as goal

abbrev pub invariant-loop-place : goal.invariant-loop-place
invariant-loop-place l = record {
  moved : (k : ℕ) → k < l.place → get_or l.kept k (int (pos 0)) ≡ get_or l.fn.kept k (int (pos 0)) +ℚ l.term.factor *ℚ l.term.number;
  left : (k : ℕ) → l.place ≤ k → get_or l.kept k (int (pos 0)) ≡ get_or l.fn.kept k (int (pos 0));
}
