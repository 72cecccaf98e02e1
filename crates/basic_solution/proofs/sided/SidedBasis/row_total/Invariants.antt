use Rattle.std.proofs.Common.{◌≡◌, ℕ, ◌<◌, ◌≤◌, ◌*◌, ◌^◌, pos, unsigned_abs}
use Rattle.frac128.specs.Rational.{int}
use Rattle.frac128.specs.LowestTerms.{quotient_of}
use Rattle.checked_sum.specs.Steps.{partial}
use Rattle.basic_solution.specs.Held.{state, table}
use Rattle.basic_solution.specs.RowTotals.{HasSmallTerm}
use Rattle.basic_solution.proofs.sided.SidedBasis.row_total.Given as goal

abbrev pub invariant-loop-place : goal.invariant-loop-place
invariant-loop-place l = record {
  size : unsigned_abs l.total ≤ l.place * 2 ^ 93;
  value : quotient_of l.total l.denominator ≡ partial (int (pos 0)) ((table l.self).entry l.row) (state l.self).at l.place;
  terms : (k : ℕ) → k < l.place → HasSmallTerm l.denominator ((table l.self).entry l.row k) ((state l.self).at k);
}
