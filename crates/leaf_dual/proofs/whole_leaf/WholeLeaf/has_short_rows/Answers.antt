use Rattle.std.proofs.Common.{subst, length}
use Rattle.kept_totals.specs.Short.{AreShortProducts}
use Rattle.leaf_dual.specs.Answers.{row_number}
use Rattle.leaf_dual.specs.Parts.{weights}
use Rattle.whole_sums.proofs.ReadLemmas.{short_read, denominator_again}
use Rattle.leaf_dual.proofs.whole_leaf.WholeLeaf.has_short_rows.Goals as goal

pub are_short-requires-clause-denominator : goal.are_short-requires-clause-denominator
are_short-requires-clause-denominator c = denominator_again c.args.self.now.denominator c.requires.denominator

pub returns : goal.returns
returns c = λ t.
    let W = c.args.self.now in
    subst (λ d. AreShortProducts d (weights W.leaf) (row_number W.leaf.model.now (weights W.leaf)) (length W.leaf.model.now.rows)) (short_read W.denominator c.requires.denominator.short) (c.are_short.ensures.short t)
