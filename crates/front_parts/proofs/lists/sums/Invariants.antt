use Rattle.std.proofs.Common.{◌≡◌, take, map, All}
use Rattle.frac128.specs.Rational.{◌+ℚ◌}
use Rattle.lp_model.specs.declared.types.Col.{Col}
use Rattle.front_parts.specs.Sums.{HasCostSum}
use Rattle.front_parts.proofs.lists.sums.Given as goal

abbrev pub invariant-loop-index : goal.invariant-loop-index
invariant-loop-index l = (l.list.items ≡ map (λ (c : Col). c.cost +ℚ c.cost2) (take l.index l.model.cols)) × All HasCostSum (take l.index l.model.cols)
