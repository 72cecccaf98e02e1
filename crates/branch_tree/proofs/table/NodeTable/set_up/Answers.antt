use Rattle.std.proofs.Common.{◌≡◌, Some, IsSome, subst, sym, ap, ◌∙◌}
use Rattle.std.specs.Option.{option_map}
use Rattle.slab.specs.Slab.{get}
use Rattle.branch_tree.specs.declared.stored.TreeNode.{TreeNode}
use Rattle.branch_tree.specs.private.Moved.{with_up}
use Rattle.branch_tree.specs.Table.{node_under}
use Rattle.branch_tree.proofs.TableLemmas.{some-with, with-same, change-here, change-others, change-found}
use Rattle.branch_tree.proofs.table.NodeTable.set_up.Goals as goal

pub returns-clause-table : goal.returns-clause-table
returns-clause-table c =
    let nodes = c.args.self.now.nodes in
    let id = c.args.id in
    let key = c.key-key.result in
    let es = c.args.self.now.keys.items in
    let some = some-with id (get nodes key) (subst (λ o. IsSome (node_under nodes id o)) c.key-key.ensures.key c.requires.there) in
    let slot : TreeNode = with_up c.args.up some.0 in
    record {
      rising = c.requires.table.rising;
      found = change-found nodes c.move_at.new.nodes key id (Some slot) es (c.move_at.ensures.put some.0 some.1.0) c.key-key.ensures.key some.0 some.1.0 some.1.1
          (λ m is. let same : slot ≡ m = cc in ap (λ (x : TreeNode). x.id) (sym same) ∙ some.1.1) c.requires.table.found;
    }

pub returns-clause-put : goal.returns-clause-put
returns-clause-put c =
    let nodes = c.args.self.now.nodes in
    let id = c.args.id in
    let key = c.key-key.result in
    let es = c.args.self.now.keys.items in
    let some = some-with id (get nodes key) (subst (λ o. IsSome (node_under nodes id o)) c.key-key.ensures.key c.requires.there) in
    let slot : TreeNode = with_up c.args.up some.0 in
    let u = c.move_at.ensures.put some.0 some.1.0 in
    record {
      changed = change-here nodes c.move_at.new.nodes key id (Some slot) es u c.key-key.ensures.key some.0 some.1.0 some.1.1 ∙ with-same id slot some.1.1 ∙ sym (ap (option_map (with_up c.args.up)) (c.key-key.ensures.there ∙ some.1.0));
      others = change-others nodes c.move_at.new.nodes key id (Some slot) es u c.key-key.ensures.key some.0 some.1.0 some.1.1 (λ m is. let same : slot ≡ m = cc in ap (λ (x : TreeNode). x.id) (sym same) ∙ some.1.1);
    }
