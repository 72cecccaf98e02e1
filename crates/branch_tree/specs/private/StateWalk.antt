-- A walk that gives the leaves of a tree their states, from left to right.
use Rattle.std.specs.Prelude.{◌≡◌, ℕ, ◌^◌, ◌<◌, ◌≤◌, List, [], Option, Some, None}
use Rattle.branch_tree.specs.Tree.{node_count}
use Rattle.branch_tree.specs.Plain.{Plain, nodes_with}
use Rattle.branch_tree.specs.Leaves.{leaf_count, with_state}
use Rattle.branch_tree.specs.Held.{HoldsTree}
use Rattle.branch_tree.specs.declared.lists.Due.{Due}
use Rattle.branch_tree.specs.declared.node.LeafState.{LeafState}
use Rattle.branch_tree.specs.declared.stored.TreeNode.{TreeNode}
use Rattle.branch_tree.specs.declared.stored.NodeKind.{NodeKind}
use Rattle.branch_tree.specs.declared.stored.NodeKind.TheVariants as node
use Rattle.branch_tree.specs.declared.table.NodeTable.{NodeTable}

abbrev pub kind_with_state : LeafState → NodeKind → NodeKind
kind_with_state state (node.Leaf kept) = node.Leaf (with_state state kept)
kind_with_state state (node.Split s) = node.Split s

-- the node, with another state if it is a leaf
abbrev pub node_with_state : LeafState → TreeNode → TreeNode
node_with_state state n = record { id = n.id; up = n.up; kind = kind_with_state state n.kind }

-- the ids of a split's children
abbrev pub children_of_kind : NodeKind → Option (ℕ × ℕ)
children_of_kind (node.Leaf kept) = None
children_of_kind (node.Split s) = Some (s.left, s.right)

abbrev pub children_of : Option TreeNode → Option (ℕ × ℕ)
children_of None = None
children_of (Some n) = children_of_kind n.kind

-- The leaves of a tree can be given so many states: no id is there twice, the list of a walk is empty and has room, and there is a
-- state for each leaf.
pub record TakesStates (t : NodeTable) (root : ℕ) (due : List Due) (room many : ℕ) (T : Plain) : Type 0 where
  pub opens : ℕ
  pub nodes : HoldsTree t root opens T
  pub once : (k : ℕ) → nodes_with k T ≤ 1
  pub nothing : due ≡ []
  pub roomy : node_count T ≤ room
  pub enough : leaf_count T ≤ many
  pub fits : node_count T < 2 ^ 64
