-- The way from a node up to the root, and the path that a walk keeps.
use Rattle.std.specs.Prelude.{◌≡◌, ℕ, List, [], ◌∷◌, ◌++◌, map, take, Option, Some, None}
use Rattle.lp_model.specs.Regions.{Path, AreNarrow}
use Rattle.branch_tree.specs.private.Stored.{change_of}
use Rattle.branch_tree.specs.declared.node.RegionLeaf.{RegionLeaf}
use Rattle.branch_tree.specs.declared.stored.Up.{Up}
use Rattle.branch_tree.specs.declared.stored.TreeNode.{TreeNode}
use Rattle.branch_tree.specs.declared.stored.NodeKind.{NodeKind}
use Rattle.branch_tree.specs.declared.stored.NodeKind.TheVariants as node
use Rattle.branch_tree.specs.declared.upward.Turn.{Turn}
use Rattle.branch_tree.specs.declared.visiting.DueNode.{DueNode}

-- ---- up to the root

-- these are the changes from a node with this way up to the root, its own first
abbrev pub LeadsUp : (ℕ → Option TreeNode) → Option Up → Path → Type 0
LeadsUp found None [] = Unit {0}
LeadsUp found None (c ∷ cs) = ⊥
LeadsUp found (Some way) [] = ⊥
LeadsUp found (Some way) (c ∷ cs) = (change_of way ≡ c) × ((n : TreeNode) × ((found way.parent ≡ Some n) × LeadsUp found n.up cs))

abbrev pub changes_of : List Turn → Path
changes_of turns = map (λ (t : Turn). t.change) turns

-- ---- along a walk

abbrev pub own_change : Option Up → Path
own_change None = []
own_change (Some way) = change_of way ∷ []

-- the path of a node, where so many changes of the path lead to its parent
abbrev pub path_to : Path → ℕ → Option Up → Path
path_to path above up = take above path ++ own_change up

abbrev pub due_below : ℕ → NodeKind → List DueNode → List DueNode
due_below depth (node.Leaf kept) due = due
due_below depth (node.Split s) due = (due ++ record { id = s.right; above = depth } ∷ []) ++ record { id = s.left; above = depth } ∷ []

-- what a visit of the node makes of the visitor: one step for a leaf, and nothing for a split
abbrev pub VisitsNode : {V : Type 0} → (V → RegionLeaf → V → Type 0) → Path → ℕ → NodeKind → V → V → Type 0
VisitsNode step path id (node.Leaf kept) old new = step old (record { id = id; region = path; kept = kept }) new
VisitsNode step path id (node.Split s) old new = new ≡ old

-- the path of a leaf is narrow
abbrev pub IsNarrowAt : Path → NodeKind → Type 0
IsNarrowAt path (node.Leaf kept) = AreNarrow path
IsNarrowAt path (node.Split s) = Unit {0}
