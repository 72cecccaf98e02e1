use Rattle.std.proofs.Common.{◌≡◌, [], List, length, refl, sym, subst, ap, arith}
use Rattle.std.specs.List.{AllZip}
use Rattle.lp_model.specs.Formulations.{formulation}
use Rattle.branch_tree.specs.Leaves.{region_leaves}
use Rattle.branch_tree.specs.declared.node.LeafState.{LeafState}
use Rattle.leaf_judging.specs.declared.judging.Marking.{Marking}
use Rattle.leaf_judging.specs.private.Queued.{AreQueued}
use Rattle.leaf_judging.proofs.JudgeLemmas.{JudgedAs, length-placed, judged_tree, judged-count}
use Rattle.leaf_judging.proofs.QueueLists.{queued-none, queue-tree}
use Rattle.leaf_judging.proofs.MarkLemmas.{all-kept, marked, marked-count}
use Rattle.leaf_judging.proofs.judging.judge_again.Goals as goal

pub returns-in-Ok-clause-count : goal.returns-in-Ok-clause-count
returns-in-Ok-clause-count c =
    let root = c.args.tree.now.root in
    let none : c.new.result.items ≡ [] = c.new.ensures.items in
    let old : Marking = record { against = record { model = c.args.model; target = c.args.target; numbers = c.args.numbers }; states = c.new.result; queue = c.new-2.result } in
    let walked = marked-count (region_leaves [] root) old c.visit_leaves.new.visitor c.in-Ok.ensures.visits in
    let begun = ap length none in
    let placed = length-placed [] root in
    omega (arith, walked, begun, placed)

pub returns-in-Ok-clause-states : goal.returns-in-Ok-clause-states
returns-in-Ok-clause-states c = λ cuts numbered.
    let F = formulation c.args.model.now cuts in
    let t = c.args.target.now in
    let numbers = c.args.numbers.now in
    let root = c.args.tree.now.root in
    let none : c.new.result.items ≡ [] = c.new.ensures.items in
    let old : Marking = record { against = record { model = c.args.model; target = c.args.target; numbers = c.args.numbers }; states = c.new.result; queue = c.new-2.result } in
    let new : Marking = c.visit_leaves.new.visitor in
    let begun = subst (λ (ss : List LeafState). AllZip (JudgedAs F t) [] ss × AreQueued F [] ss c.new-2.result) (sym none) (tt, queued-none F c.new-2.result c.new-2.ensures) in
    let done = marked F t numbers [] (region_leaves [] root) old new (all-kept F t numbers root numbered) ((refl, (refl, refl)), begun) c.in-Ok.ensures.visits in
    record { enough = judged-count F t root new.states.items done.1.0; judged = judged_tree F t root new.states.items done.1.0 }

pub returns-in-Ok-clause-queue : goal.returns-in-Ok-clause-queue
returns-in-Ok-clause-queue c = λ cuts numbered.
    let F = formulation c.args.model.now cuts in
    let t = c.args.target.now in
    let numbers = c.args.numbers.now in
    let root = c.args.tree.now.root in
    let none : c.new.result.items ≡ [] = c.new.ensures.items in
    let old : Marking = record { against = record { model = c.args.model; target = c.args.target; numbers = c.args.numbers }; states = c.new.result; queue = c.new-2.result } in
    let new : Marking = c.visit_leaves.new.visitor in
    let begun = subst (λ (ss : List LeafState). AllZip (JudgedAs F t) [] ss × AreQueued F [] ss c.new-2.result) (sym none) (tt, queued-none F c.new-2.result c.new-2.ensures) in
    let done = marked F t numbers [] (region_leaves [] root) old new (all-kept F t numbers root numbered) ((refl, (refl, refl)), begun) c.in-Ok.ensures.visits in
    queue-tree F root new.states.items new.queue done.1.1
