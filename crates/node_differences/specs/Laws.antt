-- That differences are undone, and what they are of.
use Rattle.std.specs.Prelude.{◌≡◌, ◌⊎◌, ℕ, true, false, List, [], map, All, Contains, Ok}
use Rattle.frac128.specs.Rational.{ℚ}
use Rattle.lp_model.specs.Edits.{is_zero}
use Rattle.lp_model.specs.declared.types.Var.{Var}
use Rattle.branch_tree.specs.Tree as tree
use Rattle.branch_tree.specs.Preorder.{SplitData, DataTree, data_nodes}
use Rattle.branch_tree.specs.declared.node.LeafData.{LeafData}
use Rattle.branch_tree.specs.declared.node.NodeData.{NodeData}
use Rattle.search_data.specs.Trees.{is_one_tree}
use Rattle.node_differences.specs.Order.{are_rising}
use Rattle.node_differences.specs.Differences.{gone, differing, difference, changed}
use Rattle.node_differences.specs.Told.{no_lists, told_lists, are_told_variables, are_told_multipliers, is_told_node, told_nodes, rebuilt}

-- ---- lists

-- a list is had again from another one and its difference from that
pub record DifferenceLaw : Type 0 where
  pub variables : (us vs : List Var) → are_told_variables us ≡ true → are_told_variables vs ≡ true → differing us (differing us vs) ≡ vs
  pub multipliers : (ms ns : List (Var × ℚ)) (k : ℕ) → are_told_multipliers ms ≡ true → are_told_multipliers ns ≡ true → changed ms k (difference ms ns) ≡ Ok ns

-- what is had from lists that rise rises, and has only what they have
abbrev pub RiseOfMultipliers : List (Var × ℚ) → Type 0
RiseOfMultipliers ds = are_rising (map (λ d. d.0) ds) ≡ true

pub record KeptLaw : Type 0 where
  pub variables : (us vs : List Var) → are_told_variables us ≡ true → are_told_variables vs ≡ true → are_told_variables (differing us vs) ≡ true
  pub each_variable : (us vs : List Var) (v : Var) → Contains (differing us vs) v → Contains us v ⊎ Contains vs v
  pub differences : (ms ns : List (Var × ℚ)) → are_told_multipliers ms ≡ true → are_told_multipliers ns ≡ true → RiseOfMultipliers (difference ms ns)
  pub each_difference : (ms ns : List (Var × ℚ)) (d : Var × ℚ) → Contains (difference ms ns) d → ((m : Var × ℚ) × (Contains ms m × (gone m ≡ d))) ⊎ Contains ns d
  pub multipliers : (ms ds ns : List (Var × ℚ)) (k : ℕ) → are_told_multipliers ms ≡ true → RiseOfMultipliers ds → changed ms k ds ≡ Ok ns → are_told_multipliers ns ≡ true
  pub each_multiplier : (ms ds ns : List (Var × ℚ)) (k : ℕ) (n : Var × ℚ) → changed ms k ds ≡ Ok ns → Contains ns n → Contains ms n ⊎ (Contains ds n × (is_zero n.1 ≡ false))

-- ---- trees

-- the tree whose nodes are told, each by the lists of the split above it
abbrev pub told_leaf : SplitData → LeafData → LeafData
told_leaf above kept = let l = told_lists above (record { mult = kept.mult; basis = kept.basis }) in record kept { mult = l.mult; basis = l.basis }

abbrev pub told_tree : SplitData → DataTree → DataTree
told_tree above (tree.Leaf kept) = tree.Leaf (told_leaf above kept)
told_tree above (tree.Split kept j v left right) = tree.Split (told_lists above kept) j v (told_tree kept left) (told_tree kept right)

-- the nodes of a tree are told by their parents; they are as many trees as before; and nodes that can be told are had again
pub record TellingLaw : Type 0 where
  pub parents : (t : DataTree) → told_nodes [] (data_nodes t) ≡ data_nodes (told_tree no_lists t)
  pub whole : (nodes : List NodeData) → is_one_tree (told_nodes [] nodes) ≡ is_one_tree nodes
  pub again : (nodes : List NodeData) → All (λ n. is_told_node n ≡ true) nodes → rebuilt 0 [] (told_nodes [] nodes) ≡ Ok nodes
