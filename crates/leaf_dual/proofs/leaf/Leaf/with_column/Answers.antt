use Rattle.std.proofs.Common.{refl}
use Rattle.leaf_dual.specs.Dual.{multiplier, cut_weight}
use Rattle.leaf_dual.specs.Parts.{cost_of}
use Rattle.leaf_dual.proofs.DualLemmas.{column-ok, column-wide}
use Rattle.leaf_dual.proofs.leaf.Leaf.with_column.Goals as goal

pub returns-in-Err : goal.returns-in-Err
returns-in-Err c = (refl, c.in-Err.ensures)

pub returns-in-Ok-add_term : goal.returns-in-Ok-add_term
returns-in-Ok-add_term c =
    let M = c.args.self.now.model.now in
    let cuts = c.args.self.now.cuts.now in
    let step = c.in-Ok-add_term.ensures in
    column-ok M cuts c.args.self.now.region.now (multiplier c.args.self.now.mult.now) (cut_weight cuts c.args.self.now.mult.now) (cost_of c.args.self.now.costed M) c.args.col c.in-Ok.reduced c.in-Ok.ensures
    c.column_side.result c.column_side.ensures c.args.total.now c.side_number-bound.result c.side_number-bound.ensures c.in-Ok-add_term.next step.0 step.1

pub returns-in-Err-add_term : goal.returns-in-Err-add_term
returns-in-Err-add_term c =
    let M = c.args.self.now.model.now in
    let cuts = c.args.self.now.cuts.now in
    let wide = column-wide M cuts c.args.self.now.region.now (multiplier c.args.self.now.mult.now) (cut_weight cuts c.args.self.now.mult.now) (cost_of c.args.self.now.costed M) c.args.col c.in-Ok.reduced c.in-Ok.ensures
    c.column_side.result c.column_side.ensures c.args.total.now c.side_number-bound.result c.side_number-bound.ensures c.in-Err-add_term.ensures in
    (refl, wide.0, wide.1)
