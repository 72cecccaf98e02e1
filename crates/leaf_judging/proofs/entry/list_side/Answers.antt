use Rattle.std.proofs.Common.{◌∙◌, ap}
use Rattle.leaf_dual.specs.Dual.{Multipliers, multiplier, row_side}
use Rattle.leaf_judging.proofs.entry.list_side.Goals as goal

pub returns : goal.returns
returns c = c.row_side.ensures ∙ ap (λ (ms : Multipliers). row_side c.args.model.now (multiplier ms) c.args.row) c.as_slice.ensures
