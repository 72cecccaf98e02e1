use Rattle.leaf_dual.specs.Dual.{cut_weight, cut_side}
use Rattle.leaf_dual.proofs.PartLemmas.{found_by}
use Rattle.leaf_dual.proofs.whole_leaf.WholeLeaf.exact_term_of_cut.Goals as goal

pub returns : goal.returns
returns c =
    let W = c.args.self.now in
    let cuts = W.leaf.cuts.now in
    let z = cut_weight cuts W.leaf.mult.now in
    let k = c.args.index in
    found_by c.cut_side-side.result (cut_side cuts z k) c.cut_weight-weight.result (z k) c.cut_side-side.ensures c.cut_weight-weight.ensures c.exact_term.result c.exact_term.ensures
