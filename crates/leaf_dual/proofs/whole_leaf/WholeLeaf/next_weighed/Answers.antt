use Rattle.std.proofs.Common.{◌∙◌, sym, arith}
use Rattle.whole_sums.specs.Wholes.{whole_number_at}
use Rattle.whole_sums.proofs.SumLemmas.{nothing_over}
use Rattle.leaf_dual.proofs.whole_leaf.WholeLeaf.next_weighed.Goals as goal

pub returns-clause-free : goal.returns-clause-free
returns-clause-free c = λ k from below.
    let W = c.args.self.now in
    let short = c.min.ensures in
    let zero = c.next_at-next.ensures.next W.cuts.now c.requires.whole.next k from (omega (arith, below, short)) in
    sym (c.requires.whole.cuts k zero.0).1 ∙ nothing_over (whole_number_at W.cuts.now k) W.denominator c.requires.whole.denominator.positive zero.1
