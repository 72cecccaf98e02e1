use Rattle.std.proofs.Common.{Ok}
use Rattle.frac128.specs.LowestTerms.{quotient_of}
use Rattle.leaf_dual.specs.Dual.{multiplier, cut_weight}
use Rattle.leaf_dual.specs.Parts.{cost_of}
use Rattle.whole_sums.specs.Wholes.{whole_number_at}
use Rattle.leaf_dual.proofs.DualLemmas.{cuts-answer}
use Rattle.leaf_dual.proofs.whole_leaf.WholeLeaf.write_first_left.Goals as goal

pub take_cuts-requires-clause-short : goal.take_cuts-requires-clause-short
take_cuts-requires-clause-short c = λ j below. (c.write_after_rows.ensures c.if-not-write_after_rows.false j below).0

pub returns : goal.returns
returns c = λ t j below.
    let W = c.args.self.now in
    let M = W.leaf.model.now in
    let cuts = W.leaf.cuts.now in
    let y = multiplier W.leaf.mult.now in
    let z = cut_weight cuts W.leaf.mult.now in
    let costs = cost_of W.leaf.costed M in
    let d = W.denominator in
    let by_rows = c.write_after_rows.ensures c.if-not-write_after_rows.false j below in
    let by_cuts = c.take_cuts.ensures t j below in
    (by_cuts.0, cuts-answer M cuts y z costs j (quotient_of (whole_number_at c.write_after_rows.new.lefts j) d) by_rows.1 (Ok (quotient_of (whole_number_at c.take_cuts.new.lefts j) d)) by_cuts.1)
