use Rattle.std.proofs.Common.{◌≤◌, length, refl, sym, ap, subst, ◌∙◌}
use Rattle.branch_tree.specs.Leaves.{leaf_count}
use Rattle.branch_tree.specs.Numbered.{NumberedTree}
use Rattle.branch_tree.specs.Held.{plain_of}
use Rattle.branch_tree.specs.Changes.{with_leaf_states}
use Rattle.branch_tree.proofs.HeldLemmas.{held, seen}
use Rattle.branch_tree.proofs.StateWalkLemmas.{takes-held, means-states}
use Rattle.branch_tree.proofs.tree.Tree.set_states.Goals as goal

pub give_states-opens-requires : goal.give_states-opens-requires
give_states-opens-requires c =
    let i = c.self.inside in
    let enough : leaf_count (plain_of i) ≤ length c.args.states.now = subst (λ (T : NumberedTree). leaf_count T.root ≤ length c.args.states.now) (sym c.self.view_is) c.requires in
    record { tree = (plain_of i, takes-held i c.self.invariant c.args.states.now enough) }

pub invariant_of-self : goal.invariant_of-self
invariant_of-self c =
    let i = c.self.inside in
    let enough : leaf_count (plain_of i) ≤ length c.args.states.now = subst (λ (T : NumberedTree). leaf_count T.root ≤ length c.args.states.now) (sym c.self.view_is) c.requires in
    let takes = takes-held i c.self.invariant c.args.states.now enough in
    held _ _ (means-states i c.self.invariant c.args.states.now enough c.give_states-opens.new.table c.give_states-opens.result (c.give_states-opens.ensures.tree (plain_of i) takes) c.give_states-opens.ensures.live c.give_states-opens.ensures.keys (record { due = c.give_states-opens.new.due; cut = i.lists.cut }) refl c.give_states-opens.ensures.empty c.give_states-opens.ensures.room)

pub returns : goal.returns
returns c =
    let i = c.self.inside in
    let enough : leaf_count (plain_of i) ≤ length c.args.states.now = subst (λ (T : NumberedTree). leaf_count T.root ≤ length c.args.states.now) (sym c.self.view_is) c.requires in
    let takes = takes-held i c.self.invariant c.args.states.now enough in
    seen _ _ (means-states i c.self.invariant c.args.states.now enough c.give_states-opens.new.table c.give_states-opens.result (c.give_states-opens.ensures.tree (plain_of i) takes) c.give_states-opens.ensures.live c.give_states-opens.ensures.keys (record { due = c.give_states-opens.new.due; cut = i.lists.cut }) refl c.give_states-opens.ensures.empty c.give_states-opens.ensures.room)
    ∙ ap (λ (T : NumberedTree). with_leaf_states T c.args.states.now) c.self.view_is
