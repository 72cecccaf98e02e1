-- The lawful part of a tree that comes from elsewhere: each split that is not on an integer column is one open leaf.
use Rattle.std.specs.Prelude.{if◌then◌else◌}
use Rattle.lp_model.specs.Program.{Program, is_integer}
use Rattle.branch_tree.specs.Tree as tree
use Rattle.branch_tree.specs.Plain.{open_data}
use Rattle.branch_tree.specs.Preorder.{DataTree}
use Rattle.branch_tree.specs.declared.node.NodeData.TheVariants.{Split, Leaf}

-- each split that is not on an integer column is one open leaf, with its multipliers and its basis
abbrev pub lawful_tree : Program → DataTree → DataTree
lawful_tree M (tree.Leaf kept) = tree.Leaf kept
lawful_tree M (tree.Split kept j v left right) =
    if is_integer M j then tree.Split kept j v (lawful_tree M left) (lawful_tree M right) else tree.Leaf (open_data kept.mult kept.basis)
