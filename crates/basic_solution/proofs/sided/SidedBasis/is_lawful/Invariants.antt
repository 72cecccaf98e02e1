use Rattle.basic_solution.specs.ListedStates.{ArePlaced}
use Rattle.basic_solution.proofs.sided.SidedBasis.is_lawful.Given as goal

abbrev pub invariant-loop-place : goal.invariant-loop-place
invariant-loop-place l = ArePlaced l.self l.place
