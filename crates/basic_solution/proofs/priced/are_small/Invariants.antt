use Rattle.std.proofs.Common.{◌≡◌, ◌<◌, ℕ, ℤ, get_or, pos}
use Rattle.frac128.specs.Rational.{int}
use Rattle.basic_solution.specs.RowTotals.{IsSmallNumber}
use Rattle.basic_solution.proofs.priced.are_small.Given as goal

abbrev pub invariant-loop-at : goal.invariant-loop-at
invariant-loop-at l = (at : ℕ) → at < l.at → (n : ℤ) × (IsSmallNumber n × (get_or l.fractions at (int (pos 0)) ≡ int n))
