use Rattle.std.proofs.Common.{refl}
use Rattle.leaf_dual.specs.Dual.{multiplier, cut_weight}
use Rattle.leaf_dual.specs.Parts.{cost_of}
use Rattle.leaf_dual.proofs.PartLemmas.{column_found, column_lost}
use Rattle.leaf_dual.proofs.whole_leaf.WholeLeaf.exact_term_of_column.Goals as goal

pub returns-in-Ok : goal.returns-in-Ok
returns-in-Ok c =
    let W = c.args.self.now in
    let M = W.leaf.model.now in
    let cuts = W.leaf.cuts.now in
    column_found M cuts W.leaf.region.now (multiplier W.leaf.mult.now) (cut_weight cuts W.leaf.mult.now) (cost_of W.leaf.costed M) c.args.col c.in-Ok.reduced c.in-Ok.ensures c.column_side-side.result c.column_side-side.ensures c.in-Ok.reduced refl
    c.exact_term.result c.exact_term.ensures

pub returns-in-Err : goal.returns-in-Err
returns-in-Err c =
    let W = c.args.self.now in
    let M = W.leaf.model.now in
    let cuts = W.leaf.cuts.now in
    column_lost M cuts W.leaf.region.now (multiplier W.leaf.mult.now) (cut_weight cuts W.leaf.mult.now) (cost_of W.leaf.costed M) c.args.col _ c.in-Err.ensures
