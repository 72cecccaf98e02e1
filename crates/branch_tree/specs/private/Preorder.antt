-- What contracts of private functions alone cite, beside specs/Preorder.
use Rattle.branch_tree.specs.Tree.{Leaf, Split}
use Rattle.branch_tree.specs.declared.node.Node.{Node}
use Rattle.branch_tree.specs.declared.node.Node.TheVariants as node
use Rattle.branch_tree.specs.declared.node.NodeData.{NodeData}
use Rattle.branch_tree.specs.declared.node.NodeData.TheVariants.{Split as SplitNode, Leaf as LeafNode}

-- the node, its id left out
abbrev pub without_id : Node → NodeData
without_id (node.Split id col v mult basis) = SplitNode col v mult basis
without_id (node.Leaf id kept) = LeafNode kept
