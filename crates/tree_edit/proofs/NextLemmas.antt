-- The leaf at the front of the queue is the one that is worked next.
use Rattle.std.specs.Prelude.{◌≡◌, ◌⊎◌, ℕ, List, [], ◌∷◌, ◌++◌, Option, Some, None, MatchOption, ℤ}
use Rattle.std.proofs.Common.{refl, sym, subst, inl, inr}
use Rattle.std.proofs.lemmas.List.{map-append}
use Rattle.lp_model.specs.Regions.{Path}
use Rattle.lp_model.specs.Formulations.{Formulation}
use Rattle.branch_tree.specs.Tree.{Leaf, Split, leaves, left_path, right_path, EachLeaf}
use Rattle.branch_tree.specs.Plain.{SplitKept, Plain}
use Rattle.branch_tree.specs.Leaves.{region_leaf, region_leaves}
use Rattle.branch_tree.specs.declared.node.LeafState.TheVariants.{IsClosed}
use Rattle.branch_tree.specs.declared.node.RegionLeaf.{RegionLeaf}
use Rattle.leaf_judging.specs.declared.choosing.Candidate.{Candidate}
use Rattle.leaf_judging.specs.declared.queue.LeafQueue.{LeafQueue}
use Rattle.leaf_judging.specs.Choosing.{GoesFirst, IsCandidate, IsOneOf, GoesBeforeAll, AreClosed, IsFirstCandidate}
use Rattle.sound_searches.specs.Calls.{IsNext}
use Rattle.sound_searches.specs.Sound.{PlainSearch, formulation_of}
use Rattle.leaf_judging.specs.Queued.{HasNone, IsFrontOf, SomeLeaf, IsQueued, IsQueueOf}
use Rattle.sound_searches.proofs.SoundLemmas.{each-weaker}

two-parts : (path : Path) (kept : SplitKept) (j : ℕ) (v : ℤ) (left right : Plain) → region_leaves path (Split kept j v left right) ≡ region_leaves (left_path path j v) left ++ region_leaves (right_path path j v) right
two-parts path kept j v left right = map-append region_leaf (leaves (left_path path j v) left) (leaves (right_path path j v) right)

-- ---- all closed

closed-append : (ls ms : List RegionLeaf) → AreClosed ls → AreClosed ms → AreClosed (ls ++ ms)
closed-append [] ms h k = k
closed-append (l ∷ ls) ms h k = (h.0, closed-append ls ms h.1 k)

pub closed-leaves : (path : Path) (t : Plain) → EachLeaf (λ p l. l.kept.state ≡ IsClosed) path t → AreClosed (region_leaves path t)
closed-leaves path (Leaf l) h = (h, tt)
closed-leaves path (Split kept j v left right) h =
    subst AreClosed (sym (two-parts path kept j v left right))
    (closed-append (region_leaves (left_path path j v) left) (region_leaves (right_path path j v) right) (closed-leaves (left_path path j v) left h.0) (closed-leaves (right_path path j v) right h.1))

-- ---- one that goes first

module _ (F : Formulation) (c : Candidate) where
  abbrev IsLater : RegionLeaf → Type 0
  IsLater l = (l.kept.state ≡ IsClosed) ⊎ ((d : Candidate) × (IsCandidate F l d × GoesFirst c.leaf_number c.id d.leaf_number d.id))

  one-left : (ls ms : List RegionLeaf) → IsOneOf F ls c → IsOneOf F (ls ++ ms) c
  one-left [] ms h = absurd h
  one-left (l ∷ ls) ms (inl h) = inl h
  one-left (l ∷ ls) ms (inr h) = inr (one-left ls ms h)

  one-right : (ls ms : List RegionLeaf) → IsOneOf F ms c → IsOneOf F (ls ++ ms) c
  one-right [] ms h = h
  one-right (l ∷ ls) ms h = inr (one-right ls ms h)

  pub one-leaf : (path : Path) (t : Plain) → SomeLeaf (λ p l. IsCandidate F (region_leaf (p, l)) c) path t → IsOneOf F (region_leaves path t) c
  one-leaf path (Leaf l) h = inl h
  one-leaf path (Split kept j v left right) (inl h) =
      subst (λ ls. IsOneOf F ls c) (sym (two-parts path kept j v left right)) (one-left (region_leaves (left_path path j v) left) (region_leaves (right_path path j v) right) (one-leaf (left_path path j v) left h))
  one-leaf path (Split kept j v left right) (inr h) =
      subst (λ ls. IsOneOf F ls c) (sym (two-parts path kept j v left right)) (one-right (region_leaves (left_path path j v) left) (region_leaves (right_path path j v) right) (one-leaf (right_path path j v) right h))

  before-append : (ls ms : List RegionLeaf) → GoesBeforeAll F c ls → GoesBeforeAll F c ms → GoesBeforeAll F c (ls ++ ms)
  before-append [] ms h k = k
  before-append (l ∷ ls) ms h k = (h.0, before-append ls ms h.1 k)

  pub before-leaves : (path : Path) (t : Plain) → EachLeaf (λ p l. IsLater (region_leaf (p, l))) path t → GoesBeforeAll F c (region_leaves path t)
  before-leaves path (Leaf l) h = (h, tt)
  before-leaves path (Split kept j v left right) h =
      subst (GoesBeforeAll F c) (sym (two-parts path kept j v left right))
      (before-append (region_leaves (left_path path j v) left) (region_leaves (right_path path j v) right) (before-leaves (left_path path j v) left h.0) (before-leaves (right_path path j v) right h.1))

-- ---- the next leaf

pub next-none : (S : PlainSearch) (queue : LeafQueue) → IsQueueOf (formulation_of S) S.tree.root queue → HasNone queue → IsNext S None
next-none S queue is none =
    closed-leaves [] S.tree.root
    (each-weaker (IsQueued (formulation_of S) queue) (λ p l. l.kept.state ≡ IsClosed) (λ p l h. elim h [ inl e ↦ e | inr k ↦ absurd (none k.0 k.1.1) ]) [] S.tree.root is.each)

pub first-some : (S : PlainSearch) (queue : LeafQueue) (c : Candidate) → IsQueueOf (formulation_of S) S.tree.root queue → IsFrontOf queue c → IsFirstCandidate (formulation_of S) (region_leaves [] S.tree.root) (Some c)
first-some S queue c is front = (
  one-leaf (formulation_of S) c [] S.tree.root (is.only c front.0),
  before-leaves (formulation_of S) c [] S.tree.root
      (each-weaker (IsQueued (formulation_of S) queue) (λ p l. IsLater (formulation_of S) c (region_leaf (p, l))) (λ p l h. elim h [ inl e ↦ inl e | inr k ↦ inr (k.0, (k.1.0, front.1 k.0 k.1.1)) ]) [] S.tree.root is.each),
)

pub next-some : (S : PlainSearch) (queue : LeafQueue) (c : Candidate) → IsQueueOf (formulation_of S) S.tree.root queue → IsFrontOf queue c → IsNext S (Some c.id)
next-some S queue c is front = (c, (first-some S queue c is front, refl))

pub first-of : (S : PlainSearch) (queue : LeafQueue) (r : Option Candidate) → IsQueueOf (formulation_of S) S.tree.root queue → MatchOption r (HasNone queue) (λ c. IsFrontOf queue c) → IsFirstCandidate (formulation_of S) (region_leaves [] S.tree.root) r
first-of S queue None is none = next-none S queue is none
first-of S queue (Some c) is front = first-some S queue c is front
