use Rattle.std.proofs.Common.{◌≡◌, take, map}
use Rattle.model_points.specs.Rays.{without_cost}
use Rattle.model_points.proofs.rays.cols_without_costs.Given as goal

abbrev pub invariant-loop-col : goal.invariant-loop-col
invariant-loop-col l = l.list ≡ map without_cost (take l.col-index l.cols)
