use Rattle.std.proofs.Common.{sym, subst}
use Rattle.std.specs.Prelude.{All, List}
use Rattle.branch_tree.specs.declared.node.NodeData.{NodeData}
use Rattle.branch_tree.specs.Preorder.{without_ids, HasNodeBound}
use Rattle.tree_rows.proofs.TreeBounds.{each-bound}
use Rattle.tree_rows.proofs.chains.made_again.Goals as goal

pub from_preorder-requires-clause-whole : goal.from_preorder-requires-clause-whole
from_preorder-requires-clause-whole c = (without_ids c.args.tree.now.root, sym c.in_ok-nodes.ensures)

pub from_preorder-requires-clause-bounds : goal.from_preorder-requires-clause-bounds
from_preorder-requires-clause-bounds c =
    subst (λ (ns : List NodeData). All HasNodeBound ns) (sym c.in_ok-nodes.ensures) (each-bound c.args.tree.now.root c.nodes-numbered.ensures.numbered.bounds)
