use Rattle.leaf_dual.specs.Dual.{multiplier, row_side}
use Rattle.leaf_dual.proofs.PartLemmas.{found_by}
use Rattle.leaf_dual.proofs.whole_leaf.WholeLeaf.exact_term_of_row.Goals as goal

pub returns : goal.returns
returns c =
    let W = c.args.self.now in
    let M = W.leaf.model.now in
    let y = multiplier W.leaf.mult.now in
    let i = c.args.index in
    found_by c.row_side-side.result (row_side M y i) c.multiplier-weight.result (y i) c.row_side-side.ensures c.multiplier-weight.ensures c.exact_term.result c.exact_term.ensures
