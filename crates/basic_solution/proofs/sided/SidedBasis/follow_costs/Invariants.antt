use Rattle.std.proofs.Common.{◌≡◌, ℕ, ◌<◌, ◌≤◌, pos}
use Rattle.table_entries.specs.WholeSteps.{whole_number_at}
use Rattle.basic_solution.specs.KeptCosts.{AreShortOrMarks}
use Rattle.basic_solution.specs.private.Followed.{IsFollowed, number_but}
use Rattle.basic_solution.proofs.sided.SidedBasis.follow_costs.Given as goal

abbrev pub invariant-loop-at : goal.invariant-loop-at
invariant-loop-at l = record {
  done : (k : ℕ) → k < l.at → IsFollowed l.before l.after l.factor (whole_number_at l.entries k) (number_but l.place (pos 0) l.fn.kept k) (whole_number_at l.kept k);
  rest : (k : ℕ) → l.at ≤ k → whole_number_at l.kept k ≡ whole_number_at l.fn.kept k;
  range : AreShortOrMarks l.kept;
}
