use Rattle.std.proofs.Common.{◌≡◌, ℕ, ◌<◌}
use Rattle.frac128.specs.LowestTerms.{quotient_of}
use Rattle.checked_sum.specs.Steps.{AllFit, partial}
use Rattle.whole_sums.specs.Wholes.{HasMargin}
use Rattle.whole_sums.proofs.sums.whole_total.Given as goal

abbrev pub invariant-loop-index : goal.invariant-loop-index
invariant-loop-index g l = record {
  room : HasMargin l.total;
  total : quotient_of l.total (g.T.WholeTerms.denominator l.terms) ≡ partial (quotient_of l.start (g.T.WholeTerms.denominator l.terms)) (g.T.WholeTerms.factor l.terms) (g.T.WholeTerms.number l.terms) l.index;
  fits : AllFit (quotient_of l.start (g.T.WholeTerms.denominator l.terms)) (g.T.WholeTerms.factor l.terms) (g.T.WholeTerms.number l.terms) l.index;
  holds : (k : ℕ) → k < l.index → g.T.WholeTerms.holds l.terms k;
}
