-- A node that takes another one's place.
use Rattle.std.specs.Prelude.{Option}
use Rattle.branch_tree.specs.declared.stored.Up.{Up}
use Rattle.branch_tree.specs.declared.stored.TreeNode.{TreeNode}

-- the node, with another way from its parent
abbrev pub with_up : Option Up → TreeNode → TreeNode
with_up up n = record { id = n.id; up = up; kind = n.kind }
