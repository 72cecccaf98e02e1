use Rattle.std.proofs.Common.{◌≡◌, take, map, if◌then◌else◌, nat_eq}
use Rattle.lp_model.specs.declared.types.Col.{Col}
use Rattle.front_parts.proofs.lists.objective_costs.Given as goal

abbrev pub invariant-loop-col : goal.invariant-loop-col
invariant-loop-col l = l.list.items ≡ map (λ (c : Col). if nat_eq l.which 2 then c.cost2 else c.cost) (take l.col-index l.cols)
