-- The queue after a leaf is closed, stays with its multipliers and its state, or is split.
use Rattle.std.specs.Prelude.{◌≡◌, ◌≢◌, ℕ, ◌+◌, ◌<◌, [], Option, Some, None, ℤ}
use Rattle.std.proofs.Common.{refl, sym, subst, ap, ◌∙◌, arith, inl, inr}
use Rattle.frac128.specs.Rational.{ℚ}
use Rattle.lp_model.specs.Regions.{Path}
use Rattle.lp_model.specs.Formulations.{Formulation}
use Rattle.lp_model.specs.declared.types.Basis.{Basis}
use Rattle.leaf_dual.specs.Dual.{Multipliers}
use Rattle.branch_tree.specs.Tree.{Leaf, left_path, right_path, EachLeaf}
use Rattle.branch_tree.specs.Plain.{LeafKept, Plain, leaves_with, replaced}
use Rattle.branch_tree.specs.Leaves.{region_leaf}
use Rattle.branch_tree.specs.Numbered.{NumberedTree, IsNumbered}
use Rattle.branch_tree.specs.Changes.{HasLeaf}
use Rattle.branch_tree.specs.declared.node.LeafState.{LeafState}
use Rattle.branch_tree.specs.declared.node.LeafState.TheVariants.{IsOpen, IsClosed}
use Rattle.branch_tree.specs.declared.node.LeafData.{LeafData}
use Rattle.leaf_judging.specs.declared.choosing.Candidate.{Candidate}
use Rattle.leaf_judging.specs.declared.queue.LeafQueue.{LeafQueue}
use Rattle.leaf_judging.specs.Closing.{IsNumber}
use Rattle.leaf_judging.specs.Choosing.{IsCandidate}
use Rattle.leaf_judging.specs.Queued.{Has, IsThat, AddsBoth, Removes, IsSameQueue, IsNew, SomeLeaf, IsQueued, IsQueueOf, IsFiniteNumber, HasFiniteNumber, HasMultipliers, HasState, IsChildCandidate, candidate_of}
use Rattle.sound_searches.specs.Placing.{IsAt, split_with_leaves}
use Rattle.leaf_judging.proofs.JudgeLemmas.{rank_same}
use Rattle.sound_searches.proofs.ClosedTree.{each_both}
use Rattle.sound_searches.proofs.SoundLemmas.{each-weaker}
use Rattle.leaf_judging.proofs.QueueLists.{child-candidate}
use Rattle.tree_edit.proofs.QueuedLemmas.{some-put, some-id, each-changed, some-changed}

apart-by_id : (c d : Candidate) → c.id ≢ d.id → c ≢ d
apart-by_id c d ne e = ne (ap (λ (k : Candidate). k.id) e)

module _ (F : Formulation) (t : Plain) where
  -- a candidate of the queue has the id of a leaf
  pub queued-id : (queue : LeafQueue) → IsQueueOf F t queue → (c : Candidate) → Has queue c → 0 < leaves_with c.id t
  queued-id queue is c has = some-id c.id (λ p l. IsCandidate F (region_leaf (p, l)) c) (λ p l k. sym k.id) [] t (is.only c has)

  pub queue-same : (old new : LeafQueue) → IsQueueOf F t old → IsSameQueue old new → IsQueueOf F t new
  queue-same old new is same = record {
    each = each-weaker (IsQueued F old) (IsQueued F new) (λ p l h. elim h [ inl e ↦ inl e | inr k ↦ inr (k.0, (k.1.0, (same k.0).1 k.1.1)) ]) [] t is.each;
    only = λ c has. is.only c ((same c).0 has);
  }

  -- ---- a leaf that is closed

  module _ (r : Option ℚ) (id : ℕ) (path : Path) (kept : LeafData) (at : IsAt id path t) (ranked : HasFiniteNumber F t (record { leaf_number = r; id = id })) where
    abbrev this : Candidate
    this = record { leaf_number = r; id = id }

    abbrev Ranked : Path → LeafKept → Type 0
    Ranked p l = IsFiniteNumber F p l.kept r

    known : EachLeaf (λ p l. l.id ≡ id → (p ≡ path) × Ranked p l) [] t
    known = each-weaker (λ p l. (l.id ≡ id → p ≡ path) × (l.id ≡ id → Ranked p l)) (λ p l. l.id ≡ id → (p ≡ path) × Ranked p l) (λ p l h e. (h.0 e, h.1 e)) [] t
        (each_both (λ p l. l.id ≡ id → p ≡ path) (λ p l. l.id ≡ id → Ranked p l) [] t at ranked)

    -- the leaf's only candidate is this one
    is-this : (p : Path) (l : LeafKept) (c : Candidate) → l.id ≡ id → Ranked p l → IsCandidate F (region_leaf (p, l)) c → c ≡ this
    is-this p l c e h k =
        let same : c.leaf_number ≡ r = k.leaf_number_is ∙ rank_same F p l.kept.mult l.kept.farkas k.number h.0 k.number_is h.1.0 ∙ sym h.1.1 in
        let ids : c.id ≡ id = k.id ∙ e in
        λ i. record { leaf_number = same i; id = ids i }

    -- each other leaf stays in the queue
    others-stay : (old new : LeafQueue) → ((c : Candidate) → Has old c → c ≢ this → Has new c) → (p : Path) (l : LeafKept) → l.id ≢ id → IsQueued F old p l → IsQueued F new p l
    others-stay old new stays p l ne (inl e) = inl e
    others-stay old new stays p l ne (inr k) = inr (k.0, (k.1.0, stays k.0 k.1.1 (apart-by_id k.0 this (λ e. ne (sym k.1.0.id ∙ e)))))

    pub queue-closed : (old new : LeafQueue) → IsQueueOf F t old → Removes old (Some this) new → kept.state ≡ IsClosed → IsQueueOf F (replaced id (Leaf (record { id = id; kept = kept })) t) new
    queue-closed old new is removed closed = record {
      each = each-changed id path (Leaf (record { id = id; kept = kept })) Ranked (IsQueued F old) (IsQueued F new) (others-stay old new (λ c has ne. (removed c).1 (has, ne))) (λ l e d h. inl closed) [] t known is.each;
      only = λ c has.
          let left = (removed c).0 has in
          some-changed id path (Leaf (record { id = id; kept = kept })) Ranked (λ p l. IsCandidate F (region_leaf (p, l)) c) (λ p l. IsCandidate F (region_leaf (p, l)) c) (λ p l ne k. k)
          (λ l e d k. absurd (left.1 (is-this path l c e d k))) [] t known (is.only c left.0);
    }

    -- ---- a leaf that is split

    module _ (old added new : LeafQueue) (last j : ℕ) (v : ℤ) (mult : Multipliers) (basis : Basis) (left right : LeafData) (one two : Option Candidate) where
      abbrev node : Plain
      node = split_with_leaves last id j v mult basis left right

      stays-in : AddsBoth old one two added → Removes added (Some this) new → (c : Candidate) → Has old c → c ≢ this → Has new c
      stays-in adds removed c has ne = (removed c).1 ((adds c).1 (inl has), ne)

      child-queued : (p : Path) (l : LeafKept) (d : Option Candidate) → l.id ≢ id → IsChildCandidate F p l d → ((c : Candidate) → IsThat d c → c ≢ this → Has new c) → IsQueued F new p l
      child-queued p l None ne h has = inl h
      child-queued p l (Some c) ne h has = inr (c, (h, has c refl (apart-by_id c this (λ e. ne (sym h.id ∙ e)))))

      child-is : (p : Path) (l : LeafKept) (d : Option Candidate) (c : Candidate) → IsChildCandidate F p l d → IsThat d c → IsCandidate F (region_leaf (p, l)) c
      child-is p l None c h that = absurd that
      child-is p l (Some d) c h that = subst (IsCandidate F (region_leaf (p, l))) (sym that) h

      pub queue-split : IsQueueOf F t old → AddsBoth old one two added → Removes added (Some this) new → leaves_with id t ≡ 1 → last + 1 ≢ id → last + 2 ≢ id
          → IsChildCandidate F (left_path path j v) (record { id = last + 1; kept = left }) one → IsChildCandidate F (right_path path j v) (record { id = last + 2; kept = right }) two
          → IsQueueOf F (replaced id node t) new
      queue-split is adds removed has_one first second first_is second_is = record {
        each = each-changed id path node Ranked (IsQueued F old) (IsQueued F new) (others-stay old new (stays-in adds removed))
            (λ l e d h. (
              child-queued (left_path path j v) (record { id = last + 1; kept = left }) one first first_is (λ c that ne. (removed c).1 ((adds c).1 (inr (inl that)), ne)),
              child-queued (right_path path j v) (record { id = last + 2; kept = right }) two second second_is (λ c that ne. (removed c).1 ((adds c).1 (inr (inr that)), ne)),
            )) [] t known is.each;
        only = λ c has.
            let from = (removed c).0 has in
            let put : SomeLeaf (λ p l. IsCandidate F (region_leaf (p, l)) c) path node → SomeLeaf (λ p l. IsCandidate F (region_leaf (p, l)) c) [] (replaced id node t) =
            λ h. some-put id path node (λ p l. IsCandidate F (region_leaf (p, l)) c) h [] t at (omega (arith, has_one)) in
            elim ((adds c).0 from.0) [
              | inl there ↦ some-changed id path node Ranked (λ p l. IsCandidate F (region_leaf (p, l)) c) (λ p l. IsCandidate F (region_leaf (p, l)) c) (λ p l ne k. k)
                  (λ l e d k. absurd (from.1 (is-this path l c e d k))) [] t known (is.only c there)
              | inr made ↦ elim made [
                | inl that ↦ put (inl (child-is (left_path path j v) (record { id = last + 1; kept = left }) one c first_is that))
                | inr that ↦ put (inr (child-is (right_path path j v) (record { id = last + 2; kept = right }) two c second_is that))
              ]
            ];
      }

  -- ---- a leaf that keeps its multipliers and its state

  module _ (id : ℕ) (path : Path) (kept : LeafData) (at : IsAt id path t) (own : HasMultipliers id kept t) (state : HasState id kept.state t) where
    abbrev pub Own : Path → LeafKept → Type 0
    Own p l = (l.kept.mult ≡ kept.mult) × ((l.kept.farkas ≡ kept.farkas) × (l.kept.state ≡ kept.state))

    abbrev here : LeafKept
    here = record { id = id; kept = kept }

    pub owned : EachLeaf (λ p l. l.id ≡ id → (p ≡ path) × Own p l) [] t
    owned = each-weaker (λ p l. (l.id ≡ id → p ≡ path) × ((l.id ≡ id → (l.kept.mult ≡ kept.mult) × (l.kept.farkas ≡ kept.farkas)) × (l.id ≡ id → l.kept.state ≡ kept.state))) (λ p l. l.id ≡ id → (p ≡ path) × Own p l)
        (λ p l h e. (h.0 e, ((h.1.0 e).0, ((h.1.0 e).1, h.1.1 e)))) [] t
        (each_both (λ p l. l.id ≡ id → p ≡ path) (λ p l. (l.id ≡ id → (l.kept.mult ≡ kept.mult) × (l.kept.farkas ≡ kept.farkas)) × (l.id ≡ id → l.kept.state ≡ kept.state)) [] t at
        (each_both (λ p l. l.id ≡ id → (l.kept.mult ≡ kept.mult) × (l.kept.farkas ≡ kept.farkas)) (λ p l. l.id ≡ id → l.kept.state ≡ kept.state) [] t own state))

    moved : (l : LeafKept) (c : Candidate) → l.id ≡ id → Own path l → IsCandidate F (region_leaf (path, l)) c → IsCandidate F (region_leaf (path, here)) c
    moved l c e o k = record {
      state = sym o.1.1 ∙ k.state;
      number = k.number;
      number_is = subst (λ m. IsNumber F path m kept.farkas k.number) o.0 (subst (λ f. IsNumber F path l.kept.mult f k.number) o.1.0 k.number_is);
      id = k.id ∙ e;
      leaf_number_is = k.leaf_number_is;
    }

    pub queue-stays : (queue : LeafQueue) → IsQueueOf F t queue → IsQueueOf F (replaced id (Leaf here) t) queue
    queue-stays queue is = record {
      each = each-changed id path (Leaf here) Own (IsQueued F queue) (IsQueued F queue) (λ p l ne h. h)
          (λ l e o h. elim h [ inl closed ↦ inl (sym o.1.1 ∙ closed) | inr k ↦ inr (k.0, (moved l k.0 e o k.1.0, k.1.1)) ]) [] t owned is.each;
      only = λ c has.
          some-changed id path (Leaf here) Own (λ p l. IsCandidate F (region_leaf (p, l)) c) (λ p l. IsCandidate F (region_leaf (p, l)) c) (λ p l ne k. k) (λ l e o k. moved l c e o k) [] t owned (is.only c has);
    }

-- ---- candidates of children

that-id : (s : LeafState) (r : Option ℚ) (id : ℕ) (c : Candidate) → IsThat (candidate_of s r id) c → c.id ≡ id
that-id IsOpen r id c e = ap (λ (k : Candidate). k.id) e
that-id IsClosed r id c e = absurd e

module _ (F : Formulation) (T : NumberedTree) (n : IsNumbered T) (queue : LeafQueue) (is : IsQueueOf F T.root queue) where
  -- a candidate with an id that was not given is new
  pub new-candidate : (id : ℕ) → T.last < id → (s : LeafState) (r : Option ℚ) (d : Option Candidate) → d ≡ candidate_of s r id → IsNew queue d
  new-candidate id past s r d e c has that =
      let same : c.id ≡ id = that-id s r id c (subst (λ k. IsThat k c) e that) in
      let there : 0 < leaves_with id T.root = subst (λ i. 0 < leaves_with i T.root) same (queued-id F T.root queue is c has) in
      omega (arith, there, n.given id past)

pub other-id : (T : NumberedTree) → IsNumbered T → (k id : ℕ) → T.last < k → HasLeaf T id → k ≢ id
other-id T n k id past has e = let same : leaves_with k T.root ≡ leaves_with id T.root = ap (λ i. leaves_with i T.root) e in omega (arith, same, has, n.given k past)

-- ---- a leaf that is split

module _ (F : Formulation) (T : NumberedTree) (n : IsNumbered T) (old added new : LeafQueue) (left right : LeafData) (left_rank right_rank : Option ℚ) (one two : Option Candidate) (is : IsQueueOf F T.root old)
    (left_is : one ≡ candidate_of left.state left_rank (T.last + 1)) (right_is : two ≡ candidate_of right.state right_rank (T.last + 2)) (adds : AddsBoth old one two added) where
  pub split-queue : (r : Option ℚ) (id : ℕ) (path : Path) (j : ℕ) (v : ℤ) (mult : Multipliers) (basis : Basis) → HasLeaf T id → IsAt id path T.root → HasFiniteNumber F T.root (record { leaf_number = r; id = id }) → Removes added (Some (record { leaf_number = r; id = id })) new
      → IsFiniteNumber F (left_path path j v) left left_rank → IsFiniteNumber F (right_path path j v) right right_rank → IsQueueOf F (replaced id (split_with_leaves T.last id j v mult basis left right) T.root) new
  split-queue r id path j v mult basis has at ranked removed first second =
      queue-split F T.root r id path left at ranked old added new T.last j v mult basis left right one two is adds removed has
      (other-id T n (T.last + 1) id (omega arith) has) (other-id T n (T.last + 2) id (omega arith) has)
      (child-candidate F (left_path path j v) (T.last + 1) left left_rank first one left_is) (child-candidate F (right_path path j v) (T.last + 2) right right_rank second two right_is)
