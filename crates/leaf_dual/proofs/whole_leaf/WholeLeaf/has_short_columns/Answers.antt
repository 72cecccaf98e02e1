use Rattle.std.proofs.Common.{subst, length}
use Rattle.kept_totals.specs.Short.{AreShortProducts}
use Rattle.leaf_dual.specs.Dual.{column_reduced_cost}
use Rattle.leaf_dual.specs.Answers.{bound_number}
use Rattle.leaf_dual.specs.Parts.{leaf_formulation, costs, weights, cut_weights}
use Rattle.whole_sums.proofs.ReadLemmas.{short_read, denominator_again}
use Rattle.leaf_dual.proofs.whole_leaf.WholeLeaf.has_short_columns.Goals as goal

pub are_short-requires-clause-denominator : goal.are_short-requires-clause-denominator
are_short-requires-clause-denominator c = denominator_again c.args.self.now.denominator c.requires.whole.denominator

pub returns : goal.returns
returns c = λ t.
    let W = c.args.self.now in
    let F = leaf_formulation W.leaf in
    subst (λ d. AreShortProducts d (column_reduced_cost F (weights W.leaf) (cut_weights W.leaf) (costs W.leaf)) (bound_number F W.leaf.region.now (weights W.leaf) (cut_weights W.leaf) (costs W.leaf)) (length W.leaf.model.now.cols))
    (short_read W.denominator c.requires.whole.denominator.short) (c.are_short.ensures.short t)
