-- A split taken out of a tree, its child that allows 0 taking its place, and a walk that takes out those on a column.
use Rattle.std.specs.Prelude.{◌≡◌, ℕ, ◌+◌, ◌≤◌, if◌then◌else◌, int_le, List, [], ◌∷◌, map, reverse, ℤ, pos, Option, vec_capacity}
use Rattle.branch_tree.specs.Tree.{Leaf, Split, node_count}
use Rattle.branch_tree.specs.Plain.{SplitKept, Plain, one_if_same, nodes_with}
use Rattle.branch_tree.specs.private.Splicing.{spliced}
use Rattle.branch_tree.specs.Stored.{root_id, left_up, right_up, plain_from}
use Rattle.branch_tree.specs.Table.{node_at}
use Rattle.branch_tree.specs.private.Due.{AreDue, nodes_among, node_total}
use Rattle.branch_tree.specs.Held.{HoldsTree}
use Rattle.branch_tree.specs.declared.lists.Due.{Due}
use Rattle.branch_tree.specs.declared.lists.Lists.{Lists}
use Rattle.branch_tree.specs.declared.stored.Up.{Up}
use Rattle.branch_tree.specs.declared.stored.TreeNode.{TreeNode}
use Rattle.branch_tree.specs.declared.table.NodeTable.{NodeTable}

-- of the two children of a split at v, the one that allows 0, which is the left one where 0 ≤ v
abbrev pub allowing : {A : Type 0} → ℤ → A → A → A
allowing v left right = if int_le (pos 0) v then left else right

-- ---- a tree with one place left out

pub data TreeContext : Type 0 where
  Here : TreeContext
  InLeft : (kept : SplitKept) (j : ℕ) (v : ℤ) (left : TreeContext) (right : Plain) → TreeContext
  InRight : (kept : SplitKept) (j : ℕ) (v : ℤ) (left : Plain) (right : TreeContext) → TreeContext

-- the tree with another one at the place
abbrev pub filled : TreeContext → Plain → Plain
filled Here t = t
filled (InLeft kept j v left right) t = Split kept j v (filled left t) right
filled (InRight kept j v left right) t = Split kept j v left (filled right t)

-- the way to the place, where `up` is the way to the root
abbrev pub way_in : TreeContext → Option Up → Option Up
way_in Here up = up
way_in (InLeft kept j v left right) up = way_in left (left_up kept.id j v)
way_in (InRight kept j v left right) up = way_in right (right_up kept.id j v)

-- how many nodes have the id, but for those at the place
abbrev pub nodes_around : ℕ → TreeContext → ℕ
nodes_around id Here = 0
nodes_around id (InLeft kept j v left right) = one_if_same kept.id id + (nodes_around id left + nodes_with id right)
nodes_around id (InRight kept j v left right) = one_if_same kept.id id + (nodes_with id left + nodes_around id right)

-- a split in a tree
pub record Spot : Type 0 where
  pub around : TreeContext
  pub kept : SplitKept
  pub j : ℕ
  pub v : ℤ
  pub left : Plain
  pub right : Plain

abbrev pub staying : Spot → Plain
staying s = allowing s.v s.left s.right

abbrev pub going : Spot → Plain
going s = allowing s.v s.right s.left

-- the tree before and after the split is taken out
abbrev pub tree_before : Spot → Plain
tree_before s = filled s.around (Split s.kept s.j s.v s.left s.right)

abbrev pub tree_after : Spot → Plain
tree_after s = filled s.around (staying s)

-- The split with the id can be taken out: no id is there twice, nothing waits to be cut, and there is room.
pub record CanSplice (t : NodeTable) (root still_open : ℕ) (cut : List ℕ) (room id stay go : ℕ) (s : Spot) : Type 0 where
  pub nodes : HoldsTree t root still_open (tree_before s)
  pub once : (k : ℕ) → nodes_with k (tree_before s) ≤ 1
  pub named : s.kept.id ≡ id
  pub stays : root_id (staying s) ≡ stay
  pub goes : root_id (going s) ≡ go
  pub nothing : cut ≡ []
  pub roomy : node_count (tree_before s) ≤ room

-- ---- the walk

-- the ids that are due, the next one first
abbrev pub due_ids : List Due → List ℕ
due_ids due = reverse (map (λ (d : Due). d.id) due)

-- how many nodes are due, as they are read from the table
abbrev pub nodes_due : ℕ → (ℕ → Option TreeNode) → List ℕ → ℕ
nodes_due levels found ids = node_total (map (plain_from levels found) ids)

-- how many splits are on column j
abbrev pub splits_over : ℕ → Plain → ℕ
splits_over j (Leaf l) = 0
splits_over j (Split kept i v left right) = one_if_same j i + (splits_over j left + splits_over j right)

abbrev pub splits_among : ℕ → List Plain → ℕ
splits_among j [] = 0
splits_among j (t ∷ ts) = splits_over j t + splits_among j ts

-- The table has a tree whose ids differ, no list has anything, and both have room for all nodes.
pub record HasRoomToSplice (t : NodeTable) (root still_open : ℕ) (lists : Lists) (T : Plain) : Type 0 where
  pub nodes : HoldsTree t root still_open T
  pub once : (k : ℕ) → nodes_with k T ≤ 1
  pub due : lists.due.items ≡ []
  pub cut : lists.cut.items ≡ []
  pub due_room : node_count T ≤ vec_capacity lists.due
  pub cut_room : node_count T ≤ vec_capacity lists.cut

-- The walk has come so far: what it is to make of the tree now is the target, and each split on column j is in a tree that is due.
pub record IsSplicing (t : NodeTable) (root still_open : ℕ) (ids : List ℕ) (lists : Lists) (j : ℕ) (target : Plain) : Type 0 where
  pub now : Plain
  pub rest : List Plain
  pub nodes : HoldsTree t root still_open now
  pub once : (k : ℕ) → nodes_with k now ≤ 1
  pub left : spliced j now ≡ target
  pub due : AreDue (node_at t) ids rest
  pub apart : (k : ℕ) → nodes_among k rest ≤ nodes_with k now
  pub sought : splits_over j now ≡ splits_among j rest
  pub few : node_total rest ≤ vec_capacity lists.due
  pub cut : lists.cut.items ≡ []
  pub roomy : node_count now ≤ vec_capacity lists.cut
