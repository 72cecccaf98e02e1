-- A walk that makes the chosen splits open leaves: what it is still to come to, and what a table must have room for.
use Rattle.std.specs.Prelude.{◌≡◌, ℕ, ◌+◌, ◌-◌, ◌^◌, ◌<◌, ◌≤◌, Bool, true, false, List, [], ◌∷◌, ◌++◌, Option, vec_capacity}
use Rattle.branch_tree.specs.Tree.{node_count}
use Rattle.branch_tree.specs.Plain.{Plain, nodes_with}
use Rattle.branch_tree.specs.Numbered.{NumberedTree}
use Rattle.branch_tree.specs.private.Collapsing.{is_chosen, chosen_count, chosen_collapsed, chosen_ids}
use Rattle.branch_tree.specs.Table.{AreBelow}
use Rattle.branch_tree.specs.Stored.{root_id, Stands}
use Rattle.branch_tree.specs.Held.{HoldsTree}
use Rattle.branch_tree.specs.declared.walks.Chosen.{Chosen}
use Rattle.branch_tree.specs.declared.lists.Due.{Due}
use Rattle.branch_tree.specs.declared.lists.Lists.{Lists}
use Rattle.branch_tree.specs.declared.stored.Up.{Up}
use Rattle.branch_tree.specs.declared.stored.TreeNode.{TreeNode}
use Rattle.branch_tree.specs.declared.stored.NodeKind.{NodeKind}
use Rattle.branch_tree.specs.declared.stored.NodeKind.TheVariants as node
use Rattle.branch_tree.specs.declared.table.NodeTable.{NodeTable}

-- the tree with each chosen split made an open leaf
abbrev pub after_chosen : NumberedTree → Chosen → ℕ → NumberedTree
after_chosen T chosen depth = record { root = chosen_collapsed chosen depth T.last T.root; last = T.last + chosen_count chosen depth T.root; limit = T.limit }

abbrev pub is_split_kind : NodeKind → Bool
is_split_kind (node.Leaf kept) = false
is_split_kind (node.Split s) = true

-- whether a node is a split that is chosen
abbrev pub is_chosen_kind : Chosen → ℕ → NodeKind → Bool
is_chosen_kind chosen depth (node.Leaf kept) = false
is_chosen_kind chosen depth (node.Split s) = is_chosen chosen depth s.col.0

-- the nodes that are due, with the children of this one, the left one last
abbrev pub children_due : ℕ → NodeKind → List Due → List Due
children_due depth (node.Leaf kept) due = due
children_due depth (node.Split s) due = (due ++ record { id = s.right; depth = depth - 1 } ∷ []) ++ record { id = s.left; depth = depth - 1 } ∷ []

-- each is the root of its tree, which the table has
abbrev pub AreTreesDue : (ℕ → Option TreeNode) → List Due → List Plain → Type 0
AreTreesDue found [] [] = Unit {0}
AreTreesDue found [] (t ∷ ts) = ⊥
AreTreesDue found (d ∷ ds) [] = ⊥
AreTreesDue found (d ∷ ds) (t ∷ ts) = (root_id t ≡ d.id) × (((up : Option Up) × Stands found up t) × AreTreesDue found ds ts)

-- the chosen splits of the trees that are due, from left to right
abbrev pub ids_due : Chosen → List Due → List Plain → List ℕ
ids_due chosen [] ts = []
ids_due chosen (d ∷ ds) [] = []
ids_due chosen (d ∷ ds) (t ∷ ts) = chosen_ids chosen d.depth t ++ ids_due chosen ds ts

-- The chosen splits of the tree can be made open leaves: no id is there twice, nothing waits, and there is room.
pub record CanTrim (t : NodeTable) (root still_open : ℕ) (lists : Lists) (chosen : Chosen) (depth last : ℕ) (T : Plain) : Type 0 where
  pub nodes : HoldsTree t root still_open T
  pub once : (k : ℕ) → nodes_with k T ≤ 1
  pub given : (k : ℕ) → last < k → nodes_with k T ≡ 0
  pub below : AreBelow (last + 1) t.keys.items
  pub due : lists.due.items ≡ []
  pub cut : lists.cut.items ≡ []
  pub due_room : node_count T ≤ vec_capacity lists.due
  pub cut_room : node_count T ≤ vec_capacity lists.cut
  pub ids : last + chosen_count chosen depth T < 2 ^ 64
  pub few : node_count T < 2 ^ 64
