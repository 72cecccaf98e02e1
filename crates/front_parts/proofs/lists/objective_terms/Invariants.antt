use Rattle.std.proofs.Common.{◌≡◌, take, map, if◌then◌else◌, nat_eq}
use Rattle.lp_model.specs.declared.types.Col.{Col}
use Rattle.front_parts.proofs.lists.objective_terms.Given as goal

abbrev pub invariant-loop-col : goal.invariant-loop-col
invariant-loop-col l = l.list ≡ map (λ (c : Col). (c.name, (if nat_eq l.which 2 then c.cost2 else c.cost))) (take l.col-index l.model.cols)
