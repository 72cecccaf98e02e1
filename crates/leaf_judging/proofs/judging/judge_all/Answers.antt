use Rattle.std.proofs.Common.{◌≤◌, List, length, sym, subst}
use Rattle.lp_model.specs.Formulations.{formulation}
use Rattle.branch_tree.specs.Leaves.{leaf_count, with_states}
use Rattle.branch_tree.specs.Numbered.{NumberedTree}
use Rattle.branch_tree.specs.declared.node.LeafState.{LeafState}
use Rattle.leaf_judging.specs.Judged.{AreJudged}
use Rattle.leaf_judging.specs.Queued.{IsQueueOf}
use Rattle.leaf_judging.specs.Numbers.{AreNumbersOf}
use Rattle.leaf_judging.proofs.NumberLemmas.{numbers-states}
use Rattle.leaf_judging.proofs.judging.judge_all.Goals as goal

pub set_states-requires : goal.set_states-requires
set_states-requires g c =
    subst (λ (ss : List LeafState). leaf_count c.args.tree.now.root ≤ length ss) (sym c.deref.ensures.value) c.in_ok-judged.ensures.states.enough

pub returns-clause-judged : goal.returns-clause-judged
returns-clause-judged g c =
    let F = formulation c.args.model.now c.args.pool.now in
    let t = c.args.target.now in
    record {
      states = c.deref.result.now;
      tree = c.set_states.ensures;
      judged = subst (λ (T : NumberedTree). AreJudged F t T.root) (sym c.set_states.ensures)
          (subst (λ (ss : List LeafState). AreJudged F t (with_states ss c.args.tree.now.root)) (sym c.deref.ensures.value) c.in_ok-judged.ensures.states.judged);
    }

pub returns-clause-numbers : goal.returns-clause-numbers
returns-clause-numbers g c =
    let F = formulation c.args.model.now c.args.pool.now in
    let numbers = c.in_ok-judged.judged.index.numbers in
    subst (λ (T : NumberedTree). AreNumbersOf F T.root numbers) (sym c.set_states.ensures)
    (numbers-states F numbers c.deref.result.now c.args.tree.now.root c.in_ok-judged.ensures.numbers)

pub returns-clause-queue : goal.returns-clause-queue
returns-clause-queue g c =
    let F = formulation c.args.model.now c.args.pool.now in
    let queue = c.in_ok-judged.judged.index.queue in
    subst (λ (T : NumberedTree). IsQueueOf F T.root queue) (sym c.set_states.ensures)
    (subst (λ (ss : List LeafState). IsQueueOf F (with_states ss c.args.tree.now.root) queue) (sym c.deref.ensures.value) c.in_ok-judged.ensures.queue)
