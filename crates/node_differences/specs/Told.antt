-- The nodes of a tree in preorder, each told by how its lists differ from those of the split above it. The root differs from a node
-- without entries.
--     node_lists n            the multipliers and the basis of a node: what is told by differences. Farkas multipliers and states are not
--     with_lists l n          the node with these lists in their place
--     due_behind l above n    the lists of the splits above the trees that are still due behind a node with the lists l, the next tree's
--                             first: both trees of a split come next, and behind a leaf those that were due before it
--     told_nodes above ns     the nodes, each told by the lists of the split above it
--     rebuilt k above ns      the nodes that such nodes tell, of which the first has the place k; or the place of the first node of which
--                             a change says nothing, and that of the change
--     is_told_node n          the lists of a node that are told rise, and have no number 0
use Rattle.std.specs.Prelude.{ℕ, suc, Bool, ◌&&◌, not, List, [], ◌∷◌, map, Result, Ok, Err}
use Rattle.std.specs.List.{list_all}
use Rattle.frac128.specs.Rational.{ℚ}
use Rattle.lp_model.specs.Edits.{is_zero}
use Rattle.lp_model.specs.declared.types.Basis.{Basis}
use Rattle.lp_model.specs.declared.types.Var.{Var}
use Rattle.branch_tree.specs.Preorder.{SplitData}
use Rattle.branch_tree.specs.declared.node.NodeData.{NodeData}
use Rattle.branch_tree.specs.declared.node.NodeData.TheVariants.{Split, Leaf}
use Rattle.node_differences.specs.Order.{are_rising}
use Rattle.node_differences.specs.Differences.{differing, difference, changed}

-- ---- a node

abbrev pub no_lists : SplitData
no_lists = record { mult = []; basis = record { basic = []; high = [] } }

abbrev pub node_lists : NodeData → SplitData
node_lists (Split col v mult basis) = record { mult = mult; basis = basis }
node_lists (Leaf kept) = record { mult = kept.mult; basis = kept.basis }

abbrev pub with_lists : SplitData → NodeData → NodeData
with_lists l (Split col v mult basis) = Split col v l.mult l.basis
with_lists l (Leaf kept) = Leaf (record kept { mult = l.mult; basis = l.basis })

abbrev pub differing_basis : Basis → Basis → Basis
differing_basis a b = record { basic = differing a.basic b.basic; high = differing a.high b.high }

abbrev pub told_lists : SplitData → SplitData → SplitData
told_lists above l = record { mult = difference above.mult l.mult; basis = differing_basis above.basis l.basis }

abbrev pub told_node : SplitData → NodeData → NodeData
told_node above n = with_lists (told_lists above (node_lists n)) n

abbrev pub lists_with : Basis → Result (List (Var × ℚ)) ℕ → Result SplitData ℕ
lists_with basis (Ok mult) = Ok (record { mult = mult; basis = basis })
lists_with basis (Err i) = Err i

-- the lists that these tell, or the place of the first change that says nothing
abbrev pub rebuilt_lists : SplitData → SplitData → Result SplitData ℕ
rebuilt_lists above l = lists_with (differing_basis above.basis l.basis) (changed above.mult 0 l.mult)

-- ---- nodes in preorder

abbrev pub due_behind : SplitData → List SplitData → NodeData → List SplitData
due_behind l above (Split col v mult basis) = l ∷ l ∷ above
due_behind l above (Leaf kept) = above

-- where no split is due a tree begins, and its root differs from a node without entries
abbrev pub told_nodes : List SplitData → List NodeData → List NodeData
told_nodes above [] = []
told_nodes [] (n ∷ ns) = told_node no_lists n ∷ told_nodes (due_behind (node_lists n) [] n) ns
told_nodes (a ∷ above) (n ∷ ns) = told_node a n ∷ told_nodes (due_behind (node_lists n) above n) ns

abbrev pub at_node : ℕ → Result SplitData ℕ → Result SplitData (ℕ × ℕ)
at_node k (Ok l) = Ok l
at_node k (Err i) = Err (k, i)

abbrev pub node_before : NodeData → Result (List NodeData) (ℕ × ℕ) → Result (List NodeData) (ℕ × ℕ)
node_before n (Ok ns) = Ok (n ∷ ns)
node_before n (Err at) = Err at

-- the node with its lists, and those behind it
abbrev pub node_behind : NodeData → (SplitData → Result (List NodeData) (ℕ × ℕ)) → Result SplitData (ℕ × ℕ) → Result (List NodeData) (ℕ × ℕ)
node_behind n rest (Ok l) = node_before (with_lists l n) (rest l)
node_behind n rest (Err at) = Err at

abbrev pub rebuilt : ℕ → List SplitData → List NodeData → Result (List NodeData) (ℕ × ℕ)
rebuilt k above [] = Ok []
rebuilt k [] (n ∷ ns) = node_behind n (λ l. rebuilt (suc k) (due_behind l [] n) ns) (at_node k (rebuilt_lists no_lists (node_lists n)))
rebuilt k (a ∷ above) (n ∷ ns) = node_behind n (λ l. rebuilt (suc k) (due_behind l above n) ns) (at_node k (rebuilt_lists a (node_lists n)))

-- ---- what can be told

abbrev pub are_told_variables : List Var → Bool
are_told_variables vs = are_rising vs

abbrev pub are_told_multipliers : List (Var × ℚ) → Bool
are_told_multipliers ms = are_rising (map (λ m. m.0) ms) && list_all (λ m. not (is_zero m.1)) ms

abbrev pub are_told_lists : SplitData → Bool
are_told_lists l = are_told_multipliers l.mult && (are_told_variables l.basis.basic && are_told_variables l.basis.high)

abbrev pub is_told_node : NodeData → Bool
is_told_node n = are_told_lists (node_lists n)
