-- What contracts of private functions alone cite, beside specs/Held.
use Rattle.std.specs.Prelude.{◌≡◌, ℕ, ◌+◌, ◌^◌, ◌<◌, ◌≤◌, List, []}
use Rattle.branch_tree.specs.Tree.{node_count}
use Rattle.branch_tree.specs.Plain.{Plain, splits_with, nodes_with}
use Rattle.branch_tree.specs.Table.{AreBelow}
use Rattle.branch_tree.specs.declared.table.NodeTable.{NodeTable}
use Rattle.branch_tree.specs.Held.{HoldsTree}

-- A split of the tree can be made an open leaf with a new id: no id is there twice, nothing waits to be cut, and there is room.
pub record CanCollapse (t : NodeTable) (root still_open : ℕ) (ids : List ℕ) (room id new : ℕ) (T : Plain) : Type 0 where
  pub nodes : HoldsTree t root still_open T
  pub once : (k : ℕ) → nodes_with k T ≤ 1
  pub split : splits_with id T ≡ 1
  pub fresh : nodes_with new T ≡ 0
  pub below : AreBelow new t.keys.items
  pub nothing : ids ≡ []
  pub roomy : node_count T ≤ room
  pub fits : still_open + 1 < 2 ^ 64
