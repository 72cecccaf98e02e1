use Rattle.std.proofs.Common.{◌≡◌, take, map, pos}
use Rattle.frac128.specs.Rational.{int}
use Rattle.lp_model.specs.declared.types.Col.{Col}
use Rattle.front_parts.proofs.lists.zero_costs.Given as goal

abbrev pub invariant-loop-col : goal.invariant-loop-col
invariant-loop-col l = l.list.items ≡ map (λ (c : Col). int (pos 0)) (take l.col-index l.cols)
