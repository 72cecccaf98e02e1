use Rattle.std.proofs.Common.{◌≡◌, ℕ, ◌<◌, ◌≤◌, ◌*◌, ◌^◌, pos, unsigned_abs, get_or}
use Rattle.frac128.specs.Rational.{int}
use Rattle.frac128.specs.LowestTerms.{quotient_of}
use Rattle.checked_sum.specs.Steps.{partial}
use Rattle.basic_solution.specs.Held.{table}
use Rattle.basic_solution.specs.RowTotals.{HasSmallTerm}
use Rattle.basic_solution.specs.Standing.{listed_number}
use Rattle.basic_solution.proofs.sided.SidedBasis.standing_total_of.Given as goal

abbrev pub invariant-loop-turn : goal.invariant-loop-turn
invariant-loop-turn l = record {
  size : unsigned_abs l.total ≤ l.turn * 2 ^ 93;
  value : quotient_of l.total l.denominator ≡ partial (int (pos 0)) (λ j. (table l.self).entry l.row (get_or l.places j 0)) (listed_number l.self l.places) l.turn;
  terms : (j : ℕ) → j < l.turn → HasSmallTerm l.denominator ((table l.self).entry l.row (get_or l.places j 0)) (listed_number l.self l.places j);
}
