use Rattle.std.proofs.Common.{◌≡◌, ◌+◌, ◌-◌, ◌≤◌}
use Rattle.frac128.specs.Rational.{ℚ}
use Rattle.kept_totals.specs.Walk.{IsTotalAt}
use Rattle.kept_totals.proofs.walk.add_terms.Given as goal

abbrev pub invariant-loop-index : goal.invariant-loop-index
invariant-loop-index g l = record {
  order : l.from ≤ l.index;
  total : (start : ℚ) → IsTotalAt start (g.T.PartialTerms.factor l.terms) (g.T.PartialTerms.number l.terms) (g.T.PartialTerms.is_there l.terms) l.from l.fn.totals.total → IsTotalAt start (g.T.PartialTerms.factor l.terms) (g.T.PartialTerms.number l.terms) (g.T.PartialTerms.is_there l.terms) l.index l.totals.total;
  kept : l.totals.kept ≡ l.fn.totals.kept;
  room : l.totals.room ≡ l.fn.totals.room;
  steps : l.steps ≡ l.fn.steps + (l.index - l.from);
}
