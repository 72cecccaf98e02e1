use Rattle.std.proofs.Common.{◌≡◌, ℕ, ◌+◌, ◌<◌, ◌≤◌, ◌*◌, ◌^◌, unsigned_abs, get_or}
use Rattle.frac128.specs.LowestTerms.{quotient_of}
use Rattle.checked_sum.specs.Steps.{partial}
use Rattle.basic_solution.specs.Held.{table}
use Rattle.basic_solution.specs.RowTotals.{HasSmallTerm}
use Rattle.basic_solution.specs.Priced.{row_cost}
use Rattle.basic_solution.proofs.RowTotalLemmas.{place_cost}
use Rattle.basic_solution.proofs.sided.SidedBasis.priced_total.Given as goal

abbrev pub invariant-loop-turn : goal.invariant-loop-turn
invariant-loop-turn l = record {
  size : unsigned_abs l.total ≤ (l.turn + 1) * 2 ^ 93;
  value : quotient_of l.total l.denominator ≡ partial (place_cost l.self l.place) (λ j. row_cost l.self (get_or l.rows j 0)) (λ j. (table l.self).entry (get_or l.rows j 0) l.place) l.turn;
  terms : (j : ℕ) → j < l.turn → HasSmallTerm l.denominator (row_cost l.self (get_or l.rows j 0)) ((table l.self).entry (get_or l.rows j 0) l.place);
}
