use Rattle.std.proofs.Common.{ℕ, ◌<◌}
use Rattle.lp_model.specs.Program.{ColumnHolds}
use Rattle.model_points.proofs.points.columns_hold.Given as goal

abbrev pub invariant-loop-index : goal.invariant-loop-index
invariant-loop-index l = (k : ℕ) → k < l.index → ColumnHolds l.model l.point k
