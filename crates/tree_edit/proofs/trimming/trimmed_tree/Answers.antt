use Rattle.std.proofs.Common.{◌≡◌, ◌∙◌, sym, subst, ap}
use Rattle.lp_model.specs.Formulations.{formulation}
use Rattle.branch_tree.specs.Tree.{HasNarrowSplits}
use Rattle.branch_tree.specs.Numbered.{NumberedTree}
use Rattle.branch_tree.specs.Changes.{after_trim}
use Rattle.leaf_judging.specs.Judged.{JudgesAll}
use Rattle.tree_edit.proofs.TrimLemmas.{narrow-trimmed}
use Rattle.tree_edit.proofs.trimming.trimmed_tree.Goals as goal

pub judge_all_unseen-requires : goal.judge_all_unseen-requires
judge_all_unseen-requires c =
    let T : NumberedTree = c.args.old.now in
    let tree : c.trim_depth.new.self ≡ after_trim T c.args.depth = c.trim_depth.ensures ∙ ap (λ (U : NumberedTree). after_trim U c.args.depth) c.in-Ok.ensures in
    subst (λ (U : NumberedTree). HasNarrowSplits U.root) (sym tree) (narrow-trimmed T c.args.depth c.requires)

pub returns-in-Ok-judge_all_unseen-clause-judged : goal.returns-in-Ok-judge_all_unseen-clause-judged
returns-in-Ok-judge_all_unseen-clause-judged c =
    let T : NumberedTree = c.args.old.now in
    let tree : c.trim_depth.new.self ≡ after_trim T c.args.depth = c.trim_depth.ensures ∙ ap (λ (U : NumberedTree). after_trim U c.args.depth) c.in-Ok.ensures in
    subst (λ (U : NumberedTree). JudgesAll (formulation c.args.model.now c.args.pool.now) c.args.target.now U c.judge_all_unseen.new.tree) tree c.in-Ok-judge_all_unseen.ensures.judged

pub returns-in-Ok-judge_all_unseen-clause-numbers : goal.returns-in-Ok-judge_all_unseen-clause-numbers
returns-in-Ok-judge_all_unseen-clause-numbers c = c.in-Ok-judge_all_unseen.ensures.numbers

pub returns-in-Ok-judge_all_unseen-clause-queue : goal.returns-in-Ok-judge_all_unseen-clause-queue
returns-in-Ok-judge_all_unseen-clause-queue c = c.in-Ok-judge_all_unseen.ensures.queue
