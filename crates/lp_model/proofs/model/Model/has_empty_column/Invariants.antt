use Rattle.std.proofs.Common.{ℕ, ◌<◌}
use Rattle.lp_model.specs.Regions.{IsCrossed, region_low, region_high}
use Rattle.lp_model.proofs.model.Model.has_empty_column.Given as goal

abbrev pub invariant-loop-col : goal.invariant-loop-col
invariant-loop-col l = (j : ℕ) → j < l.col → ¬ IsCrossed (region_low l.self l.region j) (region_high l.self l.region j)
