use Rattle.std.proofs.Common.{◌≡◌, take, map}
use Rattle.inner_models.specs.Inner.{least_col}
use Rattle.gap_models.proofs.bare.least_columns.Given as goal

abbrev pub invariant-loop-col : goal.invariant-loop-col
invariant-loop-col l = l.list ≡ map (least_col l.sense) (take l.col-index l.cols)
