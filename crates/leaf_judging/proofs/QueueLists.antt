-- The queue of a list of leaves, and of the tree that has these leaves.
use Rattle.std.specs.Prelude.{◌≡◌, ◌⊎◌, ℕ, List, [], ◌∷◌, ◌++◌, drop, Option, Some, None}
use Rattle.std.specs.List.{AllZip}
use Rattle.std.proofs.Common.{refl, sym, subst, inl, inr}
use Rattle.std.proofs.lemmas.List.{drop-drop, append-nil}
use Rattle.frac128.specs.Rational.{ℚ}
use Rattle.lp_model.specs.Regions.{Path}
use Rattle.lp_model.specs.Formulations.{Formulation}
use Rattle.branch_tree.specs.Tree.{Leaf, Split, left_path, right_path}
use Rattle.branch_tree.specs.Plain.{LeafKept, Plain}
use Rattle.branch_tree.specs.Leaves.{region_leaf, region_leaves, leaf_count, with_states}
use Rattle.branch_tree.specs.declared.node.LeafState.{LeafState}
use Rattle.branch_tree.specs.declared.node.LeafState.TheVariants.{IsOpen, IsClosed}
use Rattle.branch_tree.specs.declared.node.LeafData.{LeafData}
use Rattle.branch_tree.specs.declared.node.RegionLeaf.{RegionLeaf}
use Rattle.leaf_judging.specs.declared.choosing.Candidate.{Candidate}
use Rattle.leaf_judging.specs.declared.queue.LeafQueue.{LeafQueue}
use Rattle.leaf_judging.specs.Choosing.{IsCandidate}
use Rattle.leaf_judging.specs.Queued.{Has, HasNone, IsThat, Adds, SomeLeaf, IsQueued, IsQueueOf, IsFiniteNumber, IsChildCandidate, candidate_of}
use Rattle.leaf_judging.specs.private.Queued.{SomeZip, leaf_in, AreQueued}
use Rattle.leaf_judging.proofs.JudgeLemmas.{placed-split, zipped-push, each-tree}

-- ---- lists

zip-weaker : {A B : Type 0} (R Q : A → B → Type 0) → ((x : A) (y : B) → R x y → Q x y) → (xs : List A) (ys : List B) → AllZip R xs ys → AllZip Q xs ys
zip-weaker R Q w [] [] h = h
zip-weaker R Q w [] (y ∷ ys) h = h
zip-weaker R Q w (x ∷ xs) [] h = h
zip-weaker R Q w (x ∷ xs) (y ∷ ys) h = (w x y h.0, zip-weaker R Q w xs ys h.1)

some-push : {A B : Type 0} (R : A → B → Type 0) (xs : List A) (ys : List B) (x : A) (y : B) → SomeZip R xs ys → SomeZip R (xs ++ x ∷ []) (ys ++ y ∷ [])
some-push R [] ys x y h = absurd h
some-push R (z ∷ xs) [] x y h = absurd h
some-push R (z ∷ xs) (w ∷ ys) x y (inl h) = inl h
some-push R (z ∷ xs) (w ∷ ys) x y (inr h) = inr (some-push R xs ys x y h)

some-last : {A B : Type 0} (R Q : A → B → Type 0) (xs : List A) (ys : List B) (x : A) (y : B) → AllZip R xs ys → Q x y → SomeZip Q (xs ++ x ∷ []) (ys ++ y ∷ [])
some-last R Q [] [] x y h q = inl q
some-last R Q [] (w ∷ ys) x y h q = absurd h
some-last R Q (z ∷ xs) [] x y h q = absurd h
some-last R Q (z ∷ xs) (w ∷ ys) x y h q = inr (some-last R Q xs ys x y h.1 q)

-- ---- one leaf

module _ (F : Formulation) (path : Path) (id : ℕ) (kept : LeafData) (r : Option ℚ) (is : IsFiniteNumber F path kept r) where
  pub child-candidate : (d : Option Candidate) → d ≡ candidate_of kept.state r id → IsChildCandidate F path (record { id = id; kept = kept }) d
  child-candidate d e = subst (IsChildCandidate F path (record { id = id; kept = kept })) (sym e) (by kept.state refl)
    where
      by : (s : LeafState) → kept.state ≡ s → IsChildCandidate F path (record { id = id; kept = kept }) (candidate_of s r id)
      by IsOpen o = record { state = o; number = is.0; number_is = is.1.0; id = refl; leaf_number_is = is.1.1 }
      by IsClosed o = o

-- ---- one more leaf

module _ (F : Formulation) where
  pub queued-none : (queue : LeafQueue) → HasNone queue → AreQueued F [] [] queue
  queued-none queue none = record { each = tt; only = λ c has. absurd (none c has) }

  pub queued-push : (old new : LeafQueue) (leaves : List RegionLeaf) (states : List LeafState) (l : RegionLeaf) (s : LeafState) (d : Option Candidate) → AreQueued F leaves states old → Adds old d new → IsChildCandidate F l.region (leaf_in s l) d
      → AreQueued F (leaves ++ l ∷ []) (states ++ s ∷ []) new
  queued-push old new leaves states l s d is adds this = record {
    each = zipped-push (λ k r. IsQueued F new k.region (leaf_in r k)) leaves states l s
        (zip-weaker (λ k r. IsQueued F old k.region (leaf_in r k)) (λ k r. IsQueued F new k.region (leaf_in r k)) (λ k r h. elim h [ inl e ↦ inl e | inr c ↦ inr (c.0, (c.1.0, (adds c.0).1 (inl c.1.1))) ]) leaves states is.each)
        (last d this (λ c that. (adds c).1 (inr that)));
    only = λ c has. elim ((adds c).0 has) [
      | inl there ↦ some-push (λ k r. IsCandidate F (region_leaf (k.region, leaf_in r k)) c) leaves states l s (is.only c there)
      | inr that ↦ some-last (λ k r. IsQueued F old k.region (leaf_in r k)) (λ k r. IsCandidate F (region_leaf (k.region, leaf_in r k)) c) leaves states l s is.each (here d c this that)
    ];
  }
    where
      last : (e : Option Candidate) → IsChildCandidate F l.region (leaf_in s l) e → ((c : Candidate) → IsThat e c → Has new c) → IsQueued F new l.region (leaf_in s l)
      last None h has = inl h
      last (Some c) h has = inr (c, (h, has c refl))

      here : (e : Option Candidate) (c : Candidate) → IsChildCandidate F l.region (leaf_in s l) e → IsThat e c → IsCandidate F (region_leaf (l.region, leaf_in s l)) c
      here None c h that = absurd that
      here (Some e) c h that = subst (IsCandidate F (region_leaf (l.region, leaf_in s l))) (sym that) h

  -- ---- the tree

  module _ (c : Candidate) where
    abbrev Pairs : RegionLeaf → LeafState → Type 0
    Pairs l s = IsCandidate F (region_leaf (l.region, leaf_in s l)) c

    abbrev Leaves : Path → LeafKept → Type 0
    Leaves p l = IsCandidate F (region_leaf (p, l)) c

    some-more : (path : Path) (u : Plain) (more : List RegionLeaf) (states : List LeafState) → SomeZip Pairs (region_leaves path u ++ more) states → SomeLeaf Leaves path (with_states states u) ⊎ SomeZip Pairs more (drop (leaf_count u) states)
    some-more path (Leaf l) more [] h = absurd h
    some-more path (Leaf l) more (s ∷ states) (inl h) = inl h
    some-more path (Leaf l) more (s ∷ states) (inr h) = inr h
    some-more path (Split kept j v left right) more states h =
        elim (some-more (left_path path j v) left (region_leaves (right_path path j v) right ++ more) states (subst (λ ls. SomeZip Pairs ls states) (placed-split path kept j v left right more) h)) [
          | inl first ↦ inl (inl first)
          | inr rest ↦ elim (some-more (right_path path j v) right more (drop (leaf_count left) states) rest) [
            | inl second ↦ inl (inr second)
            | inr past ↦ inr (subst (SomeZip Pairs more) (drop-drop (leaf_count right) (leaf_count left) states) past)
          ]
        ]

    none-left : (states : List LeafState) → ¬ SomeZip Pairs [] states
    none-left states h = h

    some-tree : (u : Plain) (states : List LeafState) → SomeZip Pairs (region_leaves [] u) states → SomeLeaf Leaves [] (with_states states u)
    some-tree u states h =
        elim (some-more [] u [] states (subst (λ ls. SomeZip Pairs ls states) (sym (append-nil (region_leaves [] u))) h)) [ inl k ↦ k | inr k ↦ absurd (none-left (drop (leaf_count u) states) k) ]

  pub queue-tree : (u : Plain) (states : List LeafState) (queue : LeafQueue) → AreQueued F (region_leaves [] u) states queue → IsQueueOf F (with_states states u) queue
  queue-tree u states queue h = record {
    each = each-tree (λ l s. IsQueued F queue l.region (leaf_in s l)) (IsQueued F queue) (λ p l s k. k) u states h.each;
    only = λ c has. some-tree c u states (h.only c has);
  }
