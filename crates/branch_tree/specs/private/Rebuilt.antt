-- How a tree is made of its nodes in preorder. From the last node on each split gets the id of its right child: the roots of the
-- trees that begin behind it stand in a list, the next one first, so the split's children are the first two.
use Rattle.std.specs.Prelude.{◌≡◌, ℕ, ◌+◌, ◌-◌, ◌^◌, ◌≤◌, ◌/◌, List, [], ◌∷◌, ◌++◌, reverse, drop, Option, None, vec_capacity, pos, ◌<ℤ◌}
use Rattle.slab.specs.Slab.{slab_len}
use Rattle.branch_tree.specs.Tree.{EachSplit, node_count}
use Rattle.branch_tree.specs.Preorder.{DataTree, data_nodes, numbered_from}
use Rattle.branch_tree.specs.Leaves.{one_if_open}
use Rattle.branch_tree.specs.Table.{node_at, AreBelow, IsNodeTable, AreLive}
use Rattle.branch_tree.specs.Stored.{left_up, right_up}
use Rattle.branch_tree.specs.Held.{HoldsTree}
use Rattle.branch_tree.specs.declared.building.Planned.{Planned}
use Rattle.branch_tree.specs.declared.node.NodeData.{NodeData}
use Rattle.branch_tree.specs.declared.node.NodeData.TheVariants.{Split, Leaf}
use Rattle.branch_tree.specs.declared.stored.Up.{Up}
use Rattle.branch_tree.specs.declared.stored.TreeNode.{TreeNode}
use Rattle.branch_tree.specs.declared.stored.NodeKind.{NodeKind}
use Rattle.branch_tree.specs.declared.stored.NodeKind.TheVariants as node
use Rattle.branch_tree.specs.declared.table.NodeTable.{NodeTable}

abbrev pub second : List ℕ → ℕ
second [] = 0
second (a ∷ []) = 0
second (a ∷ b ∷ ids) = b

-- the id of a node's right child, 0 at a leaf, and the roots that are left for the node before
abbrev pub right_of : NodeData → List ℕ → ℕ
right_of (Split col v mult basis) roots = second roots
right_of (Leaf kept) roots = 0

abbrev pub roots_left : NodeData → List ℕ → List ℕ
roots_left (Split col v mult basis) roots = drop 2 roots
roots_left (Leaf kept) roots = roots

-- the roots of the trees whose nodes these are, with ids from k on
abbrev pub roots_of : ℕ → List NodeData → List ℕ
roots_of k [] = []
roots_of k (n ∷ nodes) = k ∷ roots_left n (roots_of (k + 1) nodes)

-- the nodes, each beside the id of its right child
abbrev pub planned_of : ℕ → List NodeData → List Planned
planned_of k [] = []
planned_of k (n ∷ nodes) = record { right = right_of n (roots_of (k + 1) nodes); node = n } ∷ planned_of (k + 1) nodes

-- ---- then each node is put into the table, from the first one on

abbrev pub built_kind : ℕ → Planned → NodeData → NodeKind
built_kind id p (Split col v mult basis) = node.Split (record { col = col; v = v; mult = mult; basis = basis; left = id + 1; right = p.right })
built_kind id p (Leaf kept) = node.Leaf kept

abbrev pub built_node : ℕ → Option Up → Planned → TreeNode
built_node id up p = record { id = id; up = up; kind = built_kind id p p.node }

-- the ways that are due, with those to the node's children, the left one last
abbrev pub ways_behind : ℕ → NodeData → List (Option Up) → List (Option Up)
ways_behind id (Split col v mult basis) ways = (ways ++ right_up id col.0 v ∷ []) ++ left_up id col.0 v ∷ []
ways_behind id (Leaf kept) ways = ways

abbrev pub one_if_open_leaf : NodeData → ℕ
one_if_open_leaf (Split col v mult basis) = 0
one_if_open_leaf (Leaf kept) = one_if_open kept.state

-- no node, and room for so many, with an id more for each split
pub record IsEmptyFor (t : NodeTable) (count : ℕ) : Type 0 where
  pub table : IsNodeTable t
  pub none : (id : ℕ) → node_at t id ≡ None
  pub keys : t.keys.items ≡ []
  pub stored : slab_len t.nodes ≡ 0
  pub room : count ≤ t.nodes.capacity
  pub spare : count + count / 2 ≤ vec_capacity t.keys

-- the nodes of this tree can be put into the table
pub record ArePlanned (t : NodeTable) (planned : List Planned) (T : DataTree) : Type 0 where
  pub empty : IsEmptyFor t (node_count T)
  pub nodes : reverse planned ≡ planned_of 1 (data_nodes T)
  pub bounds : EachSplit (λ j v. v <ℤ pos (2 ^ 127 - 1)) T
  pub few : node_count T ≤ 2 ^ 62

-- the table has them
pub record IsBuilt (t : NodeTable) (still_open : ℕ) (T : DataTree) : Type 0 where
  pub nodes : HoldsTree t 1 still_open (numbered_from 1 T)
  pub below : AreBelow (node_count T + 1) t.keys.items
  pub live : AreLive t.nodes t.keys.items
