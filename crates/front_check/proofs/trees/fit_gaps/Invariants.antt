use Rattle.std.proofs.Common.{◌↔◌}
use Rattle.frac128.specs.Range.{IsNarrow}
use Rattle.front_check.specs.Verdict.{FitGaps}
use Rattle.front_check.proofs.TreeSteps.{FitFrom}
use Rattle.front_check.proofs.trees.fit_gaps.Given as goal

abbrev pub invariant-loop-outcome : goal.invariant-loop-outcome
invariant-loop-outcome l = record {
  fit : FitFrom l.bare l.outcomes.first.f1 l.outcomes.last.f2 l.outcomes.first l.outcomes.rest.items l.before l.outcome-index ↔ FitGaps l.bare l.outcomes.first.f1 l.outcomes.last.f2 l.outcomes.first l.outcomes.rest.items;
  narrow : IsNarrow l.before.f2;
}
