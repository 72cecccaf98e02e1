-- The path of a trail: how long it is, and what a visitor of the region by its tightest changes may take as narrow.
use Rattle.std.proofs.Common.{◌≡◌, ◌≤◌, ℕ, length, take, arith}
use Rattle.std.proofs.lemmas.List.{take_all, length-take-le}
use Rattle.lp_model.specs.Regions.{Path, AreNarrow}
use Rattle.tight_regions.specs.declared.trail.Trail.{Trail}
use Rattle.tight_regions.specs.Tight.{IsTrail, path_of_trail}
use Rattle.branch_tree.specs.declared.stored.NodeKind.{NodeKind}
use Rattle.branch_tree.specs.declared.stored.NodeKind.TheVariants as node
use Rattle.branch_tree.specs.private.Paths.{IsNarrowAt}

pub path-long : (t : Trail) → IsTrail t → length (path_of_trail t) ≡ t.depth
path-long t is = length-take-le t.depth t.path.items is.within

pub whole-front : (t : Trail) (above : ℕ) → IsTrail t → t.depth ≤ above → take above (path_of_trail t) ≡ path_of_trail t
whole-front t above is low = take_all above (path_of_trail t) (omega (arith, low, path-long t is))

pub narrow-region : (R P : Path) (kind : NodeKind) → (AreNarrow P → AreNarrow R) → IsNarrowAt P kind → IsNarrowAt R kind
narrow-region R P (node.Leaf kept) h narrow = h narrow
narrow-region R P (node.Split s) h narrow = tt
