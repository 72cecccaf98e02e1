use Rattle.model_points.specs.Rays.{RowsAreKept}
use Rattle.model_points.proofs.rays.rows_go_on.Given as goal

abbrev pub invariant-loop-index : goal.invariant-loop-index
invariant-loop-index l = RowsAreKept l.model l.direction l.index
