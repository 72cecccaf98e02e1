use Rattle.std.proofs.Common.{◌≡◌, ℕ, ◌<◌, ◌≤◌}
use Rattle.table_entries.specs.WholeSteps.{whole_number_at}
use Rattle.basic_solution.specs.Held.{table}
use Rattle.basic_solution.specs.KeptCosts.{AreShortOrMarks}
use Rattle.basic_solution.specs.private.Followed.{IsFollowedValue, number_but}
use Rattle.basic_solution.proofs.sided.SidedBasis.follow_values.Given as goal

abbrev pub invariant-loop-at : goal.invariant-loop-at
invariant-loop-at l = record {
  done : (k : ℕ) → k < l.at → IsFollowedValue l.before l.after l.step.factor ((table l.self).entry k l.place) (number_but l.row l.step.start l.fn.kept k) (whole_number_at l.kept k);
  rest : (k : ℕ) → l.at ≤ k → whole_number_at l.kept k ≡ whole_number_at l.fn.kept k;
  range : AreShortOrMarks l.kept;
}
