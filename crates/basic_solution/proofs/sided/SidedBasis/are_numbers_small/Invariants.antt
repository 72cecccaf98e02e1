use Rattle.std.proofs.Common.{ℕ, ◌<◌}
use Rattle.basic_solution.specs.private.CutTotals.{StandsSmall}
use Rattle.basic_solution.proofs.sided.SidedBasis.are_numbers_small.Given as goal

abbrev pub invariant-loop-place : goal.invariant-loop-place
invariant-loop-place l = (k : ℕ) → k < l.place → StandsSmall l.self k
