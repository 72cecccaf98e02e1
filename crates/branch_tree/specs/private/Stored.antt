-- What contracts of private functions alone cite, beside specs/Stored.
use Rattle.std.specs.Prelude.{ℕ, if◌then◌else◌, nat_eq, List, [], ◌∷◌, ◌++◌, Option, Some, None}
use Rattle.lp_model.specs.declared.types.BoundChange.{BoundChange}
use Rattle.branch_tree.specs.Tree.{Leaf, Split}
use Rattle.branch_tree.specs.Plain.{open_data}
use Rattle.branch_tree.specs.declared.node.LeafData.{LeafData}
use Rattle.branch_tree.specs.declared.node.Node.{Node}
use Rattle.branch_tree.specs.declared.node.Node.TheVariants as plain
use Rattle.branch_tree.specs.declared.stored.Up.{Up}
use Rattle.branch_tree.specs.declared.stored.SplitNode.{SplitNode}
use Rattle.branch_tree.specs.declared.stored.TreeNode.{TreeNode}
use Rattle.branch_tree.specs.declared.stored.NodeKind.{NodeKind}
use Rattle.branch_tree.specs.declared.stored.NodeKind.TheVariants as node

abbrev pub change_of : Up → BoundChange
change_of u = record { col = u.col; side = u.side; v = u.v }

abbrev pub leaf_of_kind : NodeKind → Option LeafData
leaf_of_kind (node.Leaf kept) = Some kept
leaf_of_kind (node.Split s) = None

-- the data of a leaf
abbrev pub leaf_of : Option TreeNode → Option LeafData
leaf_of None = None
leaf_of (Some n) = leaf_of_kind n.kind

abbrev pub split_of_kind : NodeKind → Option SplitNode
split_of_kind (node.Leaf kept) = None
split_of_kind (node.Split s) = Some s

-- what a split keeps
abbrev pub split_of : Option TreeNode → Option SplitNode
split_of None = None
split_of (Some n) = split_of_kind n.kind

abbrev pub renamed : ℕ → ℕ → ℕ → ℕ
renamed old new id = if nat_eq id old then new else id

abbrev pub kind_with_child : ℕ → ℕ → NodeKind → NodeKind
kind_with_child old new (node.Leaf kept) = node.Leaf kept
kind_with_child old new (node.Split s) =
    node.Split (record { col = s.col; v = s.v; mult = s.mult; basis = s.basis; left = renamed old new s.left; right = renamed old new s.right })

-- the node, with the new id in the place of the old one of a child
abbrev pub with_child : ℕ → ℕ → TreeNode → TreeNode
with_child old new n = record { id = n.id; up = n.up; kind = kind_with_child old new n.kind }

-- the open leaf with a new id that takes a split's place
abbrev pub leaf_kind : NodeKind → NodeKind
leaf_kind (node.Leaf kept) = node.Leaf kept
leaf_kind (node.Split s) = node.Leaf (open_data s.mult s.basis)

abbrev pub collapsed_node : ℕ → TreeNode → TreeNode
collapsed_node new n = record { id = new; up = n.up; kind = leaf_kind n.kind }

abbrev pub written_kind : ℕ → NodeKind → Node
written_kind id (node.Leaf kept) = plain.Leaf id kept
written_kind id (node.Split s) = plain.Split id s.col s.v s.mult s.basis

-- the node as it is written, without the way to it and the ids of its children
abbrev pub written : TreeNode → Node
written n = written_kind n.id n.kind

abbrev pub children_behind : NodeKind → List ℕ → List ℕ
children_behind (node.Leaf kept) ids = ids
children_behind (node.Split s) ids = (ids ++ s.right ∷ []) ++ s.left ∷ []

-- the ids that are due, with those of the node's children, the left one last
abbrev pub with_children : TreeNode → List ℕ → List ℕ
with_children n ids = children_behind n.kind ids
