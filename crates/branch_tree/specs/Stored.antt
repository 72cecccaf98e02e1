-- Which plain tree the nodes of a table are. A node has its id, the way from its parent, and what it keeps. A split has the ids
-- of its children. A table is seen as what is found in it under each id.
use Rattle.std.specs.Prelude.{◌≡◌, ℕ, zero, suc, [], ℤ, pos, ◌+ℤ◌, Option, Some, None}
use Rattle.lp_model.specs.Regions.{at_most, at_least}
use Rattle.lp_model.specs.declared.types.BoundChange.{BoundChange}
use Rattle.branch_tree.specs.Tree.{Leaf, Split}
use Rattle.branch_tree.specs.Plain.{SplitKept, LeafKept, Plain, open_leaf}
use Rattle.branch_tree.specs.declared.stored.Up.{Up}
use Rattle.branch_tree.specs.declared.stored.TreeNode.{TreeNode}
use Rattle.branch_tree.specs.declared.stored.NodeKind.{NodeKind}
use Rattle.branch_tree.specs.declared.stored.NodeKind.TheVariants as node

abbrev pub root_id : Plain → ℕ
root_id (Leaf l) = l.id
root_id (Split kept j v left right) = kept.id

-- the way from the parent with this id by the change, and the change of a way
abbrev pub up_of : ℕ → BoundChange → Up
up_of k c = record { v = c.v; parent = k; col = c.col; side = c.side }

-- the ways from a split to its two children
abbrev pub left_up : ℕ → ℕ → ℤ → Option Up
left_up id j v = Some (up_of id (at_most j v))

abbrev pub right_up : ℕ → ℕ → ℤ → Option Up
right_up id j v = Some (up_of id (at_least j (v +ℤ pos 1)))

-- the node of a leaf, and that of a split over children with these ids
abbrev pub leaf_node : Option Up → LeafKept → TreeNode
leaf_node up l = record { id = l.id; up = up; kind = node.Leaf l.kept }

abbrev pub split_node : Option Up → SplitKept → ℕ → ℤ → ℕ → ℕ → TreeNode
split_node up kept j v left right =
    record { id = kept.id; up = up; kind = node.Split (record { col = record { 0 = j }; v = v; mult = kept.mult; basis = kept.basis; left = left; right = right }) }

-- Each node of the tree is found under its id, with the way from its parent and the ids of its children. `up` is the way to the root.
abbrev pub Stands : (ℕ → Option TreeNode) → Option Up → Plain → Type 0
Stands found up (Leaf l) = found l.id ≡ Some (leaf_node up l)
Stands found up (Split kept j v left right) =
    (found kept.id ≡ Some (split_node up kept j v (root_id left) (root_id right)))
    × (Stands found (left_up kept.id j v) left × Stands found (right_up kept.id j v) right)

-- ---- the tree that is read from a table, at most so many levels of it

abbrev pub plain_kind : (ℕ → Plain) → ℕ → NodeKind → Plain
plain_kind below id (node.Leaf kept) = Leaf (record { id = id; kept = kept })
plain_kind below id (node.Split s) = Split (record { id = id; mult = s.mult; basis = s.basis }) s.col.0 s.v (below s.left) (below s.right)

abbrev pub plain_node : (ℕ → Plain) → ℕ → Option TreeNode → Plain
plain_node below id None = open_leaf id [] (record { basic = []; high = [] })
plain_node below id (Some n) = plain_kind below id n.kind

abbrev pub plain_from : ℕ → (ℕ → Option TreeNode) → ℕ → Plain
plain_from zero found id = open_leaf id [] (record { basic = []; high = [] })
plain_from (suc levels) found id = plain_node (plain_from levels found) id (found id)

-- ---- a node with another child
