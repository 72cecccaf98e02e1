use Rattle.std.proofs.Common.{subst, length}
use Rattle.kept_totals.specs.Short.{AreShortProducts}
use Rattle.leaf_dual.specs.Answers.{cut_number}
use Rattle.leaf_dual.specs.Parts.{cut_weights}
use Rattle.whole_sums.proofs.ReadLemmas.{short_read, denominator_again}
use Rattle.leaf_dual.proofs.whole_leaf.WholeLeaf.has_short_cuts.Goals as goal

pub are_short-requires-clause-denominator : goal.are_short-requires-clause-denominator
are_short-requires-clause-denominator c = denominator_again c.args.self.now.denominator c.requires.denominator

pub returns : goal.returns
returns c = λ t.
    let W = c.args.self.now in
    subst (λ d. AreShortProducts d (cut_weights W.leaf) (cut_number W.leaf.cuts.now (cut_weights W.leaf)) (length W.leaf.cuts.now)) (short_read W.denominator c.requires.denominator.short) (c.are_short.ensures.short t)
