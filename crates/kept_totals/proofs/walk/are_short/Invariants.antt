use Rattle.std.proofs.Common.{ℕ, ◌<◌}
use Rattle.kept_totals.specs.Short.{AreShortProducts}
use Rattle.kept_totals.proofs.walk.are_short.Given as goal

abbrev pub invariant-loop-index : goal.invariant-loop-index
invariant-loop-index g l = record {
  there : (k : ℕ) → k < l.index → g.T.PartialTerms.is_there l.terms k;
  short : AreShortProducts l.denominator (g.T.PartialTerms.factor l.terms) (g.T.PartialTerms.number l.terms) l.index;
}
