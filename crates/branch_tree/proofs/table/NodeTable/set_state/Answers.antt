use Rattle.std.proofs.Common.{◌≡◌, Some, IsSome, refl, subst, sym, ap, ◌∙◌}
use Rattle.std.specs.Option.{option_map}
use Rattle.slab.specs.Slab.{get}
use Rattle.branch_tree.specs.declared.stored.TreeNode.{TreeNode}
use Rattle.branch_tree.specs.private.StateWalk.{node_with_state}
use Rattle.branch_tree.specs.Table.{node_under}
use Rattle.branch_tree.proofs.TableLemmas.{some-with, with-same, change-here, change-others, change-found, change-live}
use Rattle.branch_tree.proofs.table.NodeTable.set_state.Goals as goal

pub returns-clause-table : goal.returns-clause-table
returns-clause-table c =
    let nodes = c.args.self.now.nodes in
    let id = c.args.id in
    let key = c.key-key.result in
    let es = c.args.self.now.keys.items in
    let some = some-with id (get nodes key) (subst (λ o. IsSome (node_under nodes id o)) c.key-key.ensures.key c.requires.there) in
    let slot : TreeNode = node_with_state c.args.state some.0 in
    record {
      rising = c.requires.table.rising;
      found = change-found nodes c.set_state_at.new.nodes key id (Some slot) es (c.set_state_at.ensures.put some.0 some.1.0) c.key-key.ensures.key some.0 some.1.0 some.1.1
          (λ m is. let same : slot ≡ m = cc in ap (λ (x : TreeNode). x.id) (sym same) ∙ some.1.1) c.requires.table.found;
    }

pub returns-clause-put : goal.returns-clause-put
returns-clause-put c =
    let nodes = c.args.self.now.nodes in
    let id = c.args.id in
    let key = c.key-key.result in
    let es = c.args.self.now.keys.items in
    let some = some-with id (get nodes key) (subst (λ o. IsSome (node_under nodes id o)) c.key-key.ensures.key c.requires.there) in
    let slot : TreeNode = node_with_state c.args.state some.0 in
    let u = c.set_state_at.ensures.put some.0 some.1.0 in
    record {
      changed = change-here nodes c.set_state_at.new.nodes key id (Some slot) es u c.key-key.ensures.key some.0 some.1.0 some.1.1 ∙ with-same id slot some.1.1 ∙ sym (ap (option_map (node_with_state c.args.state)) (c.key-key.ensures.there ∙ some.1.0));
      others = change-others nodes c.set_state_at.new.nodes key id (Some slot) es u c.key-key.ensures.key some.0 some.1.0 some.1.1 (λ m is. let same : slot ≡ m = cc in ap (λ (x : TreeNode). x.id) (sym same) ∙ some.1.1);
    }

pub returns-clause-live : goal.returns-clause-live
returns-clause-live c =
    let nodes = c.args.self.now.nodes in
    let id = c.args.id in
    let key = c.key-key.result in
    let es = c.args.self.now.keys.items in
    let some = some-with id (get nodes key) (subst (λ o. IsSome (node_under nodes id o)) c.key-key.ensures.key c.requires.there) in
    let slot : TreeNode = node_with_state c.args.state some.0 in
    change-live nodes c.set_state_at.new.nodes key id (Some slot) es (c.set_state_at.ensures.put some.0 some.1.0) c.key-key.ensures.key some.0 some.1.0 some.1.1 slot refl some.1.1 es
