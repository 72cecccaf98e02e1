-- The nodes and the tree once a variable or some cuts are taken out of every kept list. A split on a variable that is taken out stays
-- (specs/private/Splicing is to take it out before), and the other columns stand where they stand then.
use Rattle.std.specs.Prelude.{ℕ}
use Rattle.std.specs.Option.{option_map}
use Rattle.lp_model.specs.declared.types.Var.{Var}
use Rattle.lp_model.specs.declared.types.Var.TheVariants.{Col, Row, Cut}
use Rattle.branch_tree.specs.Tree.{Leaf, Split}
use Rattle.branch_tree.specs.Plain.{Plain}
use Rattle.branch_tree.specs.Numbered.{NumberedTree}
use Rattle.branch_tree.specs.Following.{column_after}
use Rattle.branch_tree.specs.private.Splicing.{spliced_tree}
use Rattle.branch_tree.specs.private.Removing.{mult_left_by, basis_left_by, data_left_by}
use Rattle.branch_tree.specs.declared.following.Removed.{Removed}
use Rattle.branch_tree.specs.declared.following.Removed.TheVariants.{Variable, Cuts}
use Rattle.branch_tree.specs.declared.stored.Up.{Up}
use Rattle.branch_tree.specs.declared.stored.SplitNode.{SplitNode}
use Rattle.branch_tree.specs.declared.stored.TreeNode.{TreeNode}
use Rattle.branch_tree.specs.declared.stored.NodeKind.{NodeKind}
use Rattle.branch_tree.specs.declared.stored.NodeKind.TheVariants as node

-- where another column stands then
abbrev pub column_left_by : Removed → ℕ → ℕ
column_left_by (Variable g) j = column_after g.now j
column_left_by (Cuts g) j = j

-- ---- nodes

abbrev pub up_left_by : Removed → Up → Up
up_left_by g u = record { v = u.v; parent = u.parent; col = record { 0 = column_left_by g u.col.0 }; side = u.side }

abbrev pub split_left_by : Removed → SplitNode → SplitNode
split_left_by g s =
    record { col = record { 0 = column_left_by g s.col.0 }; v = s.v; mult = mult_left_by g s.mult; basis = basis_left_by g s.basis; left = s.left; right = s.right }

abbrev pub kind_left_by : Removed → NodeKind → NodeKind
kind_left_by g (node.Leaf kept) = node.Leaf (data_left_by g kept)
kind_left_by g (node.Split s) = node.Split (split_left_by g s)

abbrev pub node_left_by : Removed → TreeNode → TreeNode
node_left_by g n = record { id = n.id; up = option_map (up_left_by g) n.up; kind = kind_left_by g n.kind }

-- ---- trees

abbrev pub lists_left_by : Removed → Plain → Plain
lists_left_by g (Leaf l) = Leaf (record { id = l.id; kept = data_left_by g l.kept })
lists_left_by g (Split kept j v left right) =
    Split (record { id = kept.id; mult = mult_left_by g kept.mult; basis = basis_left_by g kept.basis }) (column_left_by g j) v (lists_left_by g left) (lists_left_by g right)

abbrev pub tree_left_by : Removed → NumberedTree → NumberedTree
tree_left_by g T = record { root = lists_left_by g T.root; last = T.last; limit = T.limit }

-- the tree without its splits on the variable
abbrev pub spliced_on : Var → NumberedTree → NumberedTree
spliced_on (Col g) T = spliced_tree g.0 T
spliced_on (Row g) T = T
spliced_on (Cut g) T = T
