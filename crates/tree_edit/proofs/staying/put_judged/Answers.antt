use Rattle.std.proofs.Common.{◌≤◌, List, length, sym, subst}
use Rattle.branch_tree.specs.Leaves.{leaf_count}
use Rattle.branch_tree.specs.declared.node.LeafState.{LeafState}
use Rattle.tree_edit.proofs.staying.put_judged.Goals as goal

pub set_states-requires : goal.set_states-requires
set_states-requires c = subst (λ (ss : List LeafState). leaf_count c.args.tree.now.root ≤ length ss) (sym c.deref.ensures.value) c.requires
