-- Where the splits above the trees that are due stand among the nodes. The next tree's stands last.
--     lists_due nodes due     the lists of these splits, the next tree's first
--     next_lists above        the lists of the split above the next tree: none where no split is due
--     rest_lists above        those of the splits above the trees behind it
use Rattle.std.specs.Prelude.{ℕ, List, [], ◌∷◌, map, reverse, get_or, Option, Some, None}
use Rattle.branch_tree.specs.Preorder.{SplitData}
use Rattle.branch_tree.specs.declared.node.LeafState.TheVariants.{IsOpen}
use Rattle.branch_tree.specs.declared.node.NodeData.{NodeData}
use Rattle.branch_tree.specs.declared.node.NodeData.TheVariants.{Leaf}
use Rattle.node_differences.specs.Told.{no_lists, node_lists}

-- past the end, a node without entries
abbrev pub node_at_place : List NodeData → ℕ → NodeData
node_at_place nodes k = get_or nodes k (Leaf (record { state = IsOpen; mult = []; farkas = []; basis = record { basic = []; high = [] } }))

abbrev pub lists_at : List NodeData → Option ℕ → SplitData
lists_at nodes None = no_lists
lists_at nodes (Some k) = node_lists (node_at_place nodes k)

abbrev pub lists_due : List NodeData → List ℕ → List SplitData
lists_due nodes due = map (λ k. node_lists (node_at_place nodes k)) (reverse due)

abbrev pub next_lists : List SplitData → SplitData
next_lists [] = no_lists
next_lists (a ∷ above) = a

abbrev pub rest_lists : List SplitData → List SplitData
rest_lists [] = []
rest_lists (a ∷ above) = above
