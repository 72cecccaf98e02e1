use Rattle.std.proofs.Common.{◌≡◌, ℕ, ◌<◌, ◌^◌, pos}
use Rattle.table_entries.specs.WholeSteps.{whole_number_at}
use Rattle.basic_solution.proofs.followed.forget.Given as goal

abbrev pub invariant-loop-at : goal.invariant-loop-at
invariant-loop-at l = (k : ℕ) → k < l.at → whole_number_at l.kept k ≡ pos (2 ^ 62)
