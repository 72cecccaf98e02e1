use Rattle.std.proofs.Common.{◌≡◌, take, map, if◌then◌else◌, nat_eq}
use Rattle.frac128.specs.Rational.{◌*ℚ◌}
use Rattle.lp_model.specs.declared.types.Col.{Col}
use Rattle.gap_models.proofs.models.weighed_costs.Given as goal

abbrev pub invariant-loop-col : goal.invariant-loop-col
invariant-loop-col l = l.list ≡ map (λ (c : Col). (c.name, l.weight *ℚ (if nat_eq l.which 2 then c.cost2 else c.cost))) (take l.col-index l.cols)
