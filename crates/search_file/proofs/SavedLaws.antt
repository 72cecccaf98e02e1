-- A search that is saved and made again. Its cuts are told by their derivations, its points may all be kept, its splits are lawful, and
-- its leaves are judged by the same lists at the same paths, so the states are the same.
use Rattle.std.specs.Prelude.{◌≡◌, ℕ, ◌+◌, List, [], ◌∷◌, ◌++◌, length, map, drop, All, ℤ, pos, ◌+ℤ◌, ◌<ℤ◌, Option}
use Rattle.std.proofs.Common.{refl, sym, ap, subst, ◌∙◌, arith, inl, inr}
use Rattle.std.proofs.lemmas.Int.{ints}
use Rattle.std.proofs.lemmas.List.{length-map}
use Rattle.std.proofs.lemmas.List.Elements.{All-head, All-tail, All-nil, All-cons, All-append, All-weaker}
use Rattle.frac128.specs.Rational.{ℚ}
use Rattle.frac128.specs.Range.{IsNarrow, largest}
use Rattle.lp_model.specs.Program.{Program, Point}
use Rattle.lp_model.specs.Regions.{Path}
use Rattle.lp_model.specs.Formulations.{Formulation, formulation}
use Rattle.lp_model.specs.declared.types.CutRow.{CutRow}
use Rattle.lp_model.specs.Limits.{node_limit}
use Rattle.branch_tree.specs.Tree.{Leaf, Split, left_path, right_path, EachLeaf, SplitsLawfully, node_count}
use Rattle.branch_tree.specs.Plain.{Plain}
use Rattle.branch_tree.specs.Leaves.{leaf_count, with_state, with_states}
use Rattle.branch_tree.specs.Numbered.{NumberedTree}
use Rattle.branch_tree.specs.Preorder.{DataTree, data_nodes, without_ids, numbered_from, numbered_tree}
use Rattle.branch_tree.specs.declared.node.LeafState.{LeafState}
use Rattle.branch_tree.specs.declared.node.LeafState.TheVariants.{IsClosed}
use Rattle.branch_tree.specs.declared.node.LeafData.{LeafData}
use Rattle.branch_tree.specs.declared.node.NodeData.TheVariants.{Split as SplitNode, Leaf as LeafNode}
use Rattle.cover_cuts.specs.Cuts.{IsCutOf}
use Rattle.kept_cuts.specs.Kept.{derivations_of}
use Rattle.leaf_judging.specs.Closing.{IsJudgedLeaf}
use Rattle.leaf_judging.proofs.JudgeLemmas.{judged_same}
use Rattle.leaf_judging.specs.Judged.{AreJudged, JudgesAll}
use Rattle.search_parts.specs.Points.{IsKeepable, target}
use Rattle.sound_searches.specs.Sound.{PlainSearch, IsSound, IsSoundTree, formulation_of}
use Rattle.search_parts.specs.EditedPoints.{AreKeepable}
use Rattle.sound_searches.specs.Laws.{HasNoOpenLeaf}
use Rattle.search_file.specs.Lawful.{lawful_tree}
use Rattle.search_file.specs.Saved.{saved_data, uncounted, IsRestorableNode, IsRestorable, Restores}
use Rattle.search_file.specs.Laws.{SavedLaw}
use Rattle.search_file.proofs.LawfulLemmas.{lawful-same}
use Rattle.search_file.proofs.PoolLemmas.{cuts-same}
use Rattle.search_file.proofs.TreeLemmas.{restorable-same}

-- ---- the data is restorable

narrow-below : (v : ℤ) → IsNarrow (v +ℤ pos 1) → v <ℤ pos largest
narrow-below v narrow = omega (arith, ints)

nodes-restorable : (F : Formulation) (t : Plain) → IsSoundTree F t → All (IsRestorableNode F) (data_nodes (without_ids t))
nodes-restorable F (Leaf l) h = All-cons (IsRestorableNode F) (LeafNode l.kept) [] h.lists (All-nil (IsRestorableNode F))
nodes-restorable F (Split kept j v left right) h =
    All-cons (IsRestorableNode F) (SplitNode (record { 0 = j }) v kept.mult kept.basis) (data_nodes (without_ids left) ++ data_nodes (without_ids right))
    (record { narrow = h.narrow.0.0; below = narrow-below v h.narrow.0.1; mult_is = h.lists.0.mult; basis_is = h.lists.0.basis })
    (All-append (IsRestorableNode F) (data_nodes (without_ids left)) (data_nodes (without_ids right))
    (nodes-restorable F left (record { lawful = h.lawful.1.0; narrow = h.narrow.1.0; lists = h.lists.1.0 }))
    (nodes-restorable F right (record { lawful = h.lawful.1.1; narrow = h.narrow.1.1; lists = h.lists.1.1 })))

restorable : (S : PlainSearch) → IsSound S → IsRestorable (saved_data S)
restorable S sound =
    let many : length S.cuts ≡ length (map uncounted (derivations_of S.cuts)) = sym (length-map (derivations_of S.cuts) uncounted ∙ length-map S.cuts (λ (c : CutRow). c.from)) in
    let stated : length (derivations_of S.cuts) ≡ length S.cuts = length-map S.cuts (λ (c : CutRow). c.from) in
    let own = nodes-restorable (formulation_of S) S.tree.root sound.tree in
    record {
      few_cuts = omega (arith, stated, sound.few_cuts);
      few_points = sound.few;
      tree = (without_ids S.tree.root, refl);
      nodes = All-weaker (IsRestorableNode (formulation_of S)) (IsRestorableNode (formulation S.model (map uncounted (derivations_of S.cuts)))) (restorable-same S.model S.cuts (map uncounted (derivations_of S.cuts)) many) (data_nodes (without_ids S.tree.root)) own;
    }

-- ---- points

all-kept : (M : Program) (xs ys : List Point) → All (IsKeepable M) xs → AreKeepable M xs ys → ys ≡ xs
all-kept M [] ys all h = h
all-kept M (x ∷ xs) ys all (inl h) = absurd (h.0 (All-head (IsKeepable M) x xs all))
all-kept M (x ∷ xs) ys all (inr h) = h.1.1.0 ∙ ap (λ l. x ∷ l) (all-kept M xs h.1.0 (All-tail (IsKeepable M) x xs all) h.1.1.1)

-- ---- states

module _ (F : Formulation) (t : Option ℚ) where
  leaf-again : (path : Path) (kept : LeafData) (s : LeafState) → IsJudgedLeaf F t path kept → IsJudgedLeaf F t path (with_state s kept) → with_state s kept ≡ kept
  leaf-again path kept s own again =
      let same : s ≡ kept.state = judged_same F t path (with_state s kept) kept refl refl again own in
      λ i. record { state = same i; mult = kept.mult; farkas = kept.farkas; basis = kept.basis }

  -- the tree with ids in preorder and other states, both being judged
  tree-again : (k : ℕ) (path : Path) (states : List LeafState) (u : Plain) → EachLeaf (λ p l. IsJudgedLeaf F t p l.kept) path u
      → EachLeaf (λ p l. IsJudgedLeaf F t p l.kept) path (with_states states (numbered_from k (without_ids u))) → without_ids (with_states states (numbered_from k (without_ids u))) ≡ without_ids u
  tree-again k path [] (Leaf l) own again = refl
  tree-again k path (s ∷ states) (Leaf l) own again = ap (λ (d : LeafData). let leaf : DataTree = Leaf d in leaf) (leaf-again path l.kept s own again)
  tree-again k path [] (Split kept j v left right) own again = λ i.
      Split (record { mult = kept.mult; basis = kept.basis }) j v
      (tree-again (k + 1) (left_path path j v) [] left own.0 again.0 i)
      (tree-again (k + 1 + node_count (without_ids left)) (right_path path j v) (drop (leaf_count (numbered_from (k + 1) (without_ids left))) []) right own.1 again.1 i)
  tree-again k path (s ∷ states) (Split kept j v left right) own again = λ i.
      Split (record { mult = kept.mult; basis = kept.basis }) j v
      (tree-again (k + 1) (left_path path j v) (s ∷ states) left own.0 again.0 i)
      (tree-again (k + 1 + node_count (without_ids left)) (right_path path j v) (drop (leaf_count (numbered_from (k + 1) (without_ids left))) (s ∷ states)) right own.1 again.1 i)

lawful-without : (M : Program) (u : Plain) → SplitsLawfully M u → SplitsLawfully M (without_ids u)
lawful-without M (Leaf l) h = tt
lawful-without M (Split kept j v left right) h = (h.0, (lawful-without M left h.1.0, lawful-without M right h.1.1))

-- ---- searches

module _ (S new : PlainSearch) (sound : IsSound S) (made : IsSound new) (h : Restores (saved_data S) new) where
  cuts-again : new.cuts ≡ S.cuts
  cuts-again = cuts-same S.model new.cuts S.cuts (subst (λ M. All (IsCutOf M) new.cuts) h.model made.pool) sound.pool h.cuts

  points-again : new.points ≡ S.points
  points-again = all-kept S.model S.points new.points sound.points h.points

  -- the leaves of the new tree are judged at the same formulation against the same value
  judges-again : JudgesAll (formulation_of S) (target S.model S.points) (numbered_tree node_limit (without_ids S.tree.root)) new.tree
  judges-again =
      let lawful : lawful_tree S.model (without_ids S.tree.root) ≡ without_ids S.tree.root = lawful-same S.model (without_ids S.tree.root) (lawful-without S.model S.tree.root sound.tree.lawful) in
      subst (λ P. P) (λ i. JudgesAll (formulation (h.model i) (cuts-again i)) (target (h.model i) (points-again i)) (numbered_tree node_limit (lawful i)) new.tree) (h.tree (without_ids S.tree.root) refl)

  tree-same : without_ids new.tree.root ≡ without_ids S.tree.root
  tree-same =
      let judges = judges-again in
      let u = S.tree.root in
      let judged : AreJudged (formulation_of S) (target S.model S.points) (with_states judges.states (numbered_from 1 (without_ids u))) =
      subst (λ (T : NumberedTree). AreJudged (formulation_of S) (target S.model S.points) T.root) judges.tree judges.judged in
      ap (λ (T : NumberedTree). without_ids T.root) judges.tree ∙ tree-again (formulation_of S) (target S.model S.points) 1 [] judges.states u sound.judged judged

  pub data-again : saved_data new ≡ saved_data S
  data-again = λ i. record { model = h.model i; cuts = h.cuts i; points = points-again i; nodes = data_nodes (tree-same i) }

-- ---- open leaves

-- P of the state of each leaf, which ids and paths do not tell
EachState : (LeafState → Type 0) → DataTree → Type 0
EachState P (Leaf kept) = P kept.state
EachState P (Split kept j v left right) = EachState P left × EachState P right

states-of : (P : LeafState → Type 0) (path : Path) (u : Plain) → EachLeaf (λ p l. P l.kept.state) path u → EachState P (without_ids u)
unfolding EachState
states-of P path (Leaf l) h = h
states-of P path (Split kept j v left right) h = (states-of P (left_path path j v) left h.0, states-of P (right_path path j v) right h.1)

states-in : (P : LeafState → Type 0) (path : Path) (u : Plain) → EachState P (without_ids u) → EachLeaf (λ p l. P l.kept.state) path u
unfolding EachState
states-in P path (Leaf l) h = h
states-in P path (Split kept j v left right) h = (states-in P (left_path path j v) left h.0, states-in P (right_path path j v) right h.1)

closed-again : (S new : PlainSearch) → IsSound S → IsSound new → Restores (saved_data S) new → HasNoOpenLeaf S → HasNoOpenLeaf new
closed-again S new sound made h closed =
    states-in (λ s. s ≡ IsClosed) [] new.tree.root
    (subst (EachState (λ s. s ≡ IsClosed)) (sym (tree-same S new sound made h)) (states-of (λ s. s ≡ IsClosed) [] S.tree.root closed))

pub saved : SavedLaw
saved = record { restorable = restorable; again = data-again; closed = closed-again }
