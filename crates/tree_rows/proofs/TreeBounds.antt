-- The nodes of a tree have room for the bounds of their children.
use Rattle.std.specs.Prelude.{[], ◌++◌, All}
use Rattle.std.proofs.lemmas.List.Elements.{All-nil, All-cons, All-append}
use Rattle.branch_tree.specs.Tree.{Leaf, Split}
use Rattle.branch_tree.specs.Plain.{Plain, HasBounds}
use Rattle.branch_tree.specs.declared.node.NodeData.TheVariants.{Split as SplitNode, Leaf as LeafNode}
use Rattle.branch_tree.specs.Preorder.{data_nodes, without_ids, HasNodeBound}

pub each-bound : (t : Plain) → HasBounds t → All HasNodeBound (data_nodes (without_ids t))
each-bound (Leaf l) h = All-cons HasNodeBound (LeafNode l.kept) [] tt (All-nil HasNodeBound)
each-bound (Split kept j v left right) h =
    let lefts = data_nodes (without_ids left) in
    let rights = data_nodes (without_ids right) in
    All-cons HasNodeBound (SplitNode (record { 0 = j }) v kept.mult kept.basis) (lefts ++ rights) h.0 (All-append HasNodeBound lefts rights (each-bound left h.1.0) (each-bound right h.1.1))
