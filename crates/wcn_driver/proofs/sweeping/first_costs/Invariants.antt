use Rattle.std.proofs.Common.{◌≡◌, take, map}
use Rattle.lp_model.specs.declared.types.Col.{Col}
use Rattle.wcn_driver.proofs.sweeping.first_costs.Given as goal

abbrev pub invariant-loop-col : goal.invariant-loop-col
invariant-loop-col l = l.list.items ≡ map (λ (c : Col). c.cost) (take l.col-index l.cols)
