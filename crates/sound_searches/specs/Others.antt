-- What a placed result leaves as it was.
use Rattle.std.specs.Prelude.{◌≡◌, ◌⊎◌, ℕ}
use Rattle.branch_tree.specs.Tree.{Leaf, Split}
use Rattle.branch_tree.specs.Plain.{LeafKept, Plain}
use Rattle.branch_tree.specs.declared.node.NodeResult.{NodeResult}
use Rattle.sound_searches.specs.declared.taken.Taken.{Taken}
use Rattle.sound_searches.specs.Sound.{PlainSearch}
use Rattle.sound_searches.specs.Placing.{Takes}

-- a leaf with this id, these multipliers and this basis, in whatever state
pub record IsSameLeaf (old new : LeafKept) : Type 0 where
  pub id : new.id ≡ old.id
  pub mult : new.kept.mult ≡ old.kept.mult
  pub farkas : new.kept.farkas ≡ old.kept.farkas
  pub basis : new.kept.basis ≡ old.kept.basis

abbrev pub IsLeafLike : LeafKept → Plain → Type 0
IsLeafLike l (Leaf k) = IsSameLeaf l k
IsLeafLike l (Split kept j v left right) = ⊥

-- Place by place, each node is as it was, but for the states of leaves and for what stands in the place of the leaf
-- with the id.
abbrev pub OthersStay : ℕ → Plain → Plain → Type 0
OthersStay id (Leaf l) new = (l.id ≡ id) ⊎ IsLeafLike l new
OthersStay id (Split kept j v left right) (Leaf l) = ⊥
OthersStay id (Split kept j v left right) (Split now i w first second) = (now ≡ kept) × (i ≡ j) × (w ≡ v) × OthersStay id left first × OthersStay id right second

-- a result changes no node but the leaf that it is for, and states of leaves
abbrev pub OthersLaw : Type 0
OthersLaw = (S : PlainSearch) (id : ℕ) (done : NodeResult) (new : PlainSearch) (taken : Taken) → Takes S id done new taken → OthersStay id S.tree.root new.tree.root
