use Rattle.std.proofs.Common.{take}
use Rattle.dual_bounds.specs.private.Walk.{IsLeastFeasible}
use Rattle.dual_bounds.proofs.points.least_feasible.Given as goal

abbrev pub invariant-loop-point : goal.invariant-loop-point
invariant-loop-point l = IsLeastFeasible l.model (take l.point-index l.points) l.least
