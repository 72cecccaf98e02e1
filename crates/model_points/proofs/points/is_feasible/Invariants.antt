use Rattle.model_points.specs.Answers.{RowsPass}
use Rattle.model_points.proofs.points.is_feasible.Given as goal

abbrev pub invariant-loop-index : goal.invariant-loop-index
invariant-loop-index l = RowsPass l.model l.point l.index
