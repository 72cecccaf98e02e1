use Rattle.std.proofs.Common.{◌≡◌}
use Rattle.checked_sum.specs.Steps.{AllFit, partial}
use Rattle.checked_sum.proofs.sum.checked_sum.Given as goal

abbrev pub invariant-loop-index : goal.invariant-loop-index
invariant-loop-index g l = record {
  total : l.total ≡ partial l.start (g.T.Terms.factor l.terms) (g.T.Terms.number l.terms) l.index;
  fits : AllFit l.start (g.T.Terms.factor l.terms) (g.T.Terms.number l.terms) l.index;
}
