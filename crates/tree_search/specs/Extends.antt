-- A tree from which a search went on: its open leaves may have become trees, and every other node is as it was.
use Rattle.std.specs.Prelude.{◌≡◌, ◌⊎◌}
use Rattle.branch_tree.specs.Tree.{Leaf, Split}
use Rattle.branch_tree.specs.Plain.{Plain}
use Rattle.branch_tree.specs.declared.node.LeafState.TheVariants.{IsOpen}
use Rattle.branch_tree.specs.Stored.{root_id}

-- Place by place: in the place of an open leaf there is a tree whose first node has its id, and each other node has its id, its lists
-- and its state.
abbrev pub Extends : Plain → Plain → Type 0
Extends (Leaf l) new = ((l.kept.state ≡ IsOpen) × (root_id new ≡ l.id)) ⊎ (new ≡ Leaf l)
Extends (Split kept j v left right) (Leaf l) = ⊥
Extends (Split kept j v left right) (Split now i w first second) = (now ≡ kept) × (i ≡ j) × (w ≡ v) × Extends left first × Extends right second
