use Rattle.std.proofs.Common.{◌≡◌, ℕ, ◌+◌, ◌<◌, ◌≤◌, ◌*◌, ◌^◌, unsigned_abs}
use Rattle.frac128.specs.LowestTerms.{quotient_of}
use Rattle.checked_sum.specs.Steps.{partial}
use Rattle.basic_solution.specs.Held.{table}
use Rattle.basic_solution.specs.RowTotals.{HasSmallTerm}
use Rattle.basic_solution.proofs.RowTotalLemmas.{place_cost, basic_cost}
use Rattle.basic_solution.proofs.sided.SidedBasis.cost_by_rows.Given as goal

abbrev pub invariant-loop-row : goal.invariant-loop-row
invariant-loop-row l = record {
  size : unsigned_abs l.total ≤ (l.row + 1) * 2 ^ 93;
  value : quotient_of l.total l.denominator ≡ partial (place_cost l.self l.place) (basic_cost l.self) (λ i. (table l.self).entry i l.place) l.row;
  terms : (i : ℕ) → i < l.row → HasSmallTerm l.denominator (basic_cost l.self i) ((table l.self).entry i l.place);
}
