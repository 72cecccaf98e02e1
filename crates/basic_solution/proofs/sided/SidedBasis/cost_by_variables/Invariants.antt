use Rattle.std.proofs.Common.{◌≡◌, ℕ, ◌+◌, ◌<◌, ◌≤◌, ◌*◌, ◌^◌, unsigned_abs}
use Rattle.frac128.specs.LowestTerms.{quotient_of}
use Rattle.checked_sum.specs.Steps.{partial}
use Rattle.basic_solution.specs.Held.{relaxation}
use Rattle.basic_solution.specs.RowTotals.{HasSmallTerm}
use Rattle.basic_solution.proofs.RowTotalLemmas.{place_cost, saved}
use Rattle.basic_solution.proofs.sided.SidedBasis.cost_by_variables.Given as goal

abbrev pub invariant-loop-variable : goal.invariant-loop-variable
invariant-loop-variable l = record {
  size : unsigned_abs l.total ≤ (l.variable + 1) * 2 ^ 93;
  value : quotient_of l.total l.denominator ≡ partial (place_cost l.self l.place) (relaxation l.self).cost (saved l.self l.place) l.variable;
  terms : (i : ℕ) → i < l.variable → HasSmallTerm l.denominator ((relaxation l.self).cost i) (saved l.self l.place i);
}
