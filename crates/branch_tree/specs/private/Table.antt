-- What contracts of private functions alone cite, beside specs/Table.
use Rattle.std.specs.Prelude.{◌≡◌, ◌≢◌, ℕ, Option}
use Rattle.branch_tree.specs.declared.stored.TreeNode.{TreeNode}

-- under the id this is found in the new table, and under each other id what was found in the old one
pub record PutsNode (old : ℕ → Option TreeNode) (id : ℕ) (slot : Option TreeNode) (new : ℕ → Option TreeNode) : Type 0 where
  pub changed : new id ≡ slot
  pub others : (other : ℕ) → other ≢ id → new other ≡ old other
