use Rattle.std.proofs.Common.{subst}
use Rattle.std.specs.Prelude.{List, None}
use Rattle.lp_model.specs.Formulations.{formulation}
use Rattle.lp_model.specs.declared.types.CutRow.{CutRow}
use Rattle.leaf_judging.specs.Judged.{JudgesAll}
use Rattle.leaf_judging.specs.Numbers.{AreNumbersOf}
use Rattle.leaf_judging.specs.Queued.{IsQueueOf}
use Rattle.tree_edit.proofs.search.judged_tree.Goals as goal

pub returns-in-Ok-judge_all_unseen-clause-judged : goal.returns-in-Ok-judge_all_unseen-clause-judged
returns-in-Ok-judge_all_unseen-clause-judged c =
    subst (λ P. P) (λ k. JudgesAll (formulation c.args.model.now (c.new-none.ensures k)) None (c.in-Ok.ensures k) c.judge_all_unseen.new.tree) c.in-Ok-judge_all_unseen.ensures.judged

pub returns-in-Ok-judge_all_unseen-clause-numbers : goal.returns-in-Ok-judge_all_unseen-clause-numbers
returns-in-Ok-judge_all_unseen-clause-numbers c =
    subst (λ (cuts : List CutRow). AreNumbersOf (formulation c.args.model.now cuts) c.judge_all_unseen.new.tree.root c.in-Ok-judge_all_unseen.index.numbers) c.new-none.ensures c.in-Ok-judge_all_unseen.ensures.numbers

pub returns-in-Ok-judge_all_unseen-clause-queue : goal.returns-in-Ok-judge_all_unseen-clause-queue
returns-in-Ok-judge_all_unseen-clause-queue c =
    subst (λ (cuts : List CutRow). IsQueueOf (formulation c.args.model.now cuts) c.judge_all_unseen.new.tree.root c.in-Ok-judge_all_unseen.index.queue) c.new-none.ensures c.in-Ok-judge_all_unseen.ensures.queue
