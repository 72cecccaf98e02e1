use Rattle.std.proofs.Common.{ℕ, ◌<◌}
use Rattle.model_points.specs.Rays.{ColumnGoesOn}
use Rattle.model_points.proofs.rays.columns_go_on.Given as goal

abbrev pub invariant-loop-index : goal.invariant-loop-index
invariant-loop-index l = (k : ℕ) → k < l.index → ColumnGoesOn l.model l.direction k
