-- What keeps a search sound: other states of its leaves, other data of one leaf.
use Rattle.std.specs.Prelude.{◌≡◌, ◌≢◌, ℕ, ◌<◌, Bool, true, false, List, [], ◌∷◌, drop, Option, Some, None, nat_eq, if◌then◌else◌}
use Rattle.std.specs.Option.{MatchOption, option_map}
use Rattle.std.proofs.Common.{refl, sym, subst, ◌∙◌, arith, inl, inr}
use Rattle.frac128.specs.Rational.{ℚ}
use Rattle.lp_model.specs.Regions.{Path}
use Rattle.lp_model.specs.Formulations.{Formulation}
use Rattle.branch_tree.specs.Tree.{Tree, Leaf, Split, left_path, right_path, EachLeaf}
use Rattle.branch_tree.specs.Plain.{LeafKept, Plain, one_if_same, leaves_with, path_below, replaced}
use Rattle.branch_tree.specs.Leaves.{leaf_count, with_state, with_states}
use Rattle.branch_tree.specs.declared.node.LeafState.{LeafState}
use Rattle.branch_tree.specs.declared.node.LeafData.{LeafData}
use Rattle.branch_tree.proofs.CountLemmas.{same_cases, leaf_case}
use Rattle.branch_tree.proofs.LeafLemmas.{path_below-found, path_below-left, path_below-right}
use Rattle.branch_tree.proofs.IdLemmas.{each_split-replaced}
use Rattle.branch_tree.proofs.StateLemmas.{each_split-states}
use Rattle.leaf_judging.specs.Closing.{IsJudgedLeaf}
use Rattle.search_parts.specs.Points.{target}
use Rattle.search_parts.specs.Lists.{HasLists, HasNodeLists}
use Rattle.leaf_judging.specs.Judged.{AreJudged}
use Rattle.sound_searches.specs.Sound.{PlainSearch, IsSoundTree, IsSound, formulation_of}
use Rattle.leaf_judging.specs.Queued.{HasMultipliers}
use Rattle.sound_searches.specs.Placing.{IsAt, search_with_leaf}
use Rattle.sound_searches.proofs.ClosedTree.{each_both}

-- ---- each leaf

pub each-weaker : {S L : Type 0} (P Q : Path → L → Type 0) → ((p : Path) (l : L) → P p l → Q p l) → (path : Path) (t : Tree S L) → EachLeaf P path t → EachLeaf Q path t
each-weaker P Q w path (Leaf l) h = w path l h
each-weaker P Q w path (Split kept j v left right) h = (each-weaker P Q w (left_path path j v) left h.0, each-weaker P Q w (right_path path j v) right h.1)

-- ---- the path of a leaf

some_same : {A : Type 0} (a b : A) → Some a ≡ Some b → a ≡ b
some_same a b h = cc

one-same : (a b : ℕ) → a ≡ b → one_if_same a b ≢ 0
one-same a b e none =
    elim (same_cases a b) [
      | inl h ↦ absurd (omega (arith, h.0))
      | inr h ↦ h.1 e
    ]

pub none_with : (id : ℕ) (path : Path) (t : Plain) → leaves_with id t ≡ 0 → EachLeaf (λ p l. l.id ≢ id) path t
none_with id path (Leaf l) none = λ e. one-same l.id id e none
none_with id path (Split kept j v left right) none = (none_with id (left_path path j v) left (omega arith), none_with id (right_path path j v) right (omega arith))

module _ (id : ℕ) (at : Path) where
  abbrev HasPath : Path → LeafKept → Type 0
  HasPath p l = l.id ≡ id → p ≡ at

  own-none : (path : Path) (t : Plain) → leaves_with id t ≡ 0 → EachLeaf HasPath path t
  own-none path t none = each-weaker (λ p l. l.id ≢ id) HasPath (λ p l not e. absurd (not e)) path t (none_with id path t none)

  -- where one leaf has the id, and the way to it is found, that is its path
  own_path : (path : Path) (t : Plain) → leaves_with id t ≡ 1 → path_below id path t ≡ Some at → EachLeaf HasPath path t
  own_path path (Leaf l) one found = by (nat_eq l.id id) found
    where
      by : (c : Bool) → option_map (λ (k : Path × LeafKept). k.0) (if c then Some (path, l) else None) ≡ Some at → l.id ≡ id → path ≡ at
      by true f e = some_same path at f
      by false f e = cc
  own_path path (Split kept j v left right) one found =
      by (path_below id (left_path path j v) left) refl (path_below-found id (left_path path j v) left) (own_path (left_path path j v) left) (own_path (right_path path j v) right)
    where
      by : (o : Option Path) → path_below id (left_path path j v) left ≡ o → MatchOption (path_below id (left_path path j v) left) (leaves_with id left ≡ 0) (λ _. 0 < leaves_with id left)
          → (leaves_with id left ≡ 1 → path_below id (left_path path j v) left ≡ Some at → EachLeaf HasPath (left_path path j v) left)
          → (leaves_with id right ≡ 1 → path_below id (right_path path j v) right ≡ Some at → EachLeaf HasPath (right_path path j v) right)
          → EachLeaf HasPath path (Split kept j v left right)
      by None e h in_left in_right =
          let none : leaves_with id left ≡ 0 = subst (λ z. MatchOption z (leaves_with id left ≡ 0) (λ _. 0 < leaves_with id left)) e h in
          let there : path_below id (right_path path j v) right ≡ Some at = sym (path_below-right id kept j v left right path (path_below id (right_path path j v) right) e refl) ∙ found in
          (own-none (left_path path j v) left none, in_right (omega arith) there)
      by (Some p) e h in_left in_right =
          let some : 0 < leaves_with id left = subst (λ z. MatchOption z (leaves_with id left ≡ 0) (λ _. 0 < leaves_with id left)) e h in
          let there : path_below id (left_path path j v) left ≡ Some at = e ∙ sym (path_below-left id kept j v left right path p e) ∙ found in
          (in_left (omega arith) there, own-none (right_path path j v) right (omega arith))

  -- ---- other states

  at-states : (path : Path) (states : List LeafState) (t : Plain) → EachLeaf HasPath path t → EachLeaf HasPath path (with_states states t)
  at-states path [] (Leaf l) h = h
  at-states path (s ∷ states) (Leaf l) h = h
  at-states path [] (Split kept j v left right) h = (at-states (left_path path j v) [] left h.0, at-states (right_path path j v) (drop (leaf_count left) []) right h.1)
  at-states path (s ∷ states) (Split kept j v left right) h = (at-states (left_path path j v) (s ∷ states) left h.0, at-states (right_path path j v) (drop (leaf_count left) (s ∷ states)) right h.1)

pub is_at : (id : ℕ) (path : Path) (t : Plain) → leaves_with id t ≡ 1 → path_below id [] t ≡ Some path → IsAt id path t
is_at id path t one found = own_path id path [] t one found

pub is_at-states : (id : ℕ) (path : Path) (states : List LeafState) (t : Plain) → IsAt id path t → IsAt id path (with_states states t)
is_at-states id path states t h = at-states id path [] states t h

-- other states leave the multipliers
multipliers-states : (P : LeafKept → Type 0) → ((l : LeafKept) (s : LeafState) → P l → P (record { id = l.id; kept = with_state s l.kept })) → (path : Path) (states : List LeafState) (t : Plain) → EachLeaf (λ p l. P l) path t → EachLeaf (λ p l. P l) path (with_states states t)
multipliers-states P w path [] (Leaf l) h = h
multipliers-states P w path (s ∷ states) (Leaf l) h = w l s h
multipliers-states P w path [] (Split kept j v left right) h = (multipliers-states P w (left_path path j v) [] left h.0, multipliers-states P w (right_path path j v) (drop (leaf_count left) []) right h.1)
multipliers-states P w path (s ∷ states) (Split kept j v left right) h = (multipliers-states P w (left_path path j v) (s ∷ states) left h.0, multipliers-states P w (right_path path j v) (drop (leaf_count left) (s ∷ states)) right h.1)

pub own-states : (id : ℕ) (kept : LeafData) (states : List LeafState) (t : Plain) → HasMultipliers id kept t → HasMultipliers id kept (with_states states t)
own-states id kept states t h = multipliers-states (λ l. l.id ≡ id → (l.kept.mult ≡ kept.mult) × (l.kept.farkas ≡ kept.farkas)) (λ l s k. k) [] states t h

-- what holds of each leaf holds of each after it, where it holds of the new ones below the replaced leaf's path
replaced-with : (P : Path → LeafKept → Type 0) (id : ℕ) (at : Path) (new : Plain) (path : Path) (u : Plain) → EachLeaf (λ p l. P p l × (l.id ≡ id → p ≡ at)) path u → EachLeaf P at new → EachLeaf P path (replaced id new u)
replaced-with P id at new path (Leaf l) h n = leaf_case (λ r k. EachLeaf P path r) id new l (λ e. subst (λ p. EachLeaf P p new) (sym (h.1 e)) n) (λ e. h.0)
replaced-with P id at new path (Split kept j v left right) h n = (replaced-with P id at new (left_path path j v) left h.0 n, replaced-with P id at new (right_path path j v) right h.1 n)

module _ (F : Formulation) where
  lists-states : (states : List LeafState) (t : Plain) → HasNodeLists F t → HasNodeLists F (with_states states t)
  lists-states [] (Leaf l) h = h
  lists-states (s ∷ states) (Leaf l) h = record { mult = h.mult; farkas = h.farkas; basis = h.basis }
  lists-states [] (Split kept j v left right) h = (h.0, (lists-states [] left h.1.0, lists-states (drop (leaf_count left) []) right h.1.1))
  lists-states (s ∷ states) (Split kept j v left right) h = (h.0, (lists-states (s ∷ states) left h.1.0, lists-states (drop (leaf_count left) (s ∷ states)) right h.1.1))

  pub tree-states : (states : List LeafState) (t : Plain) → IsSoundTree F t → IsSoundTree F (with_states states t)
  tree-states states t h = record { lawful = each_split-states _ states t h.lawful; narrow = each_split-states _ states t h.narrow; lists = lists-states states t h.lists }

  -- ---- another tree in a leaf's place

  lists-replaced : (id : ℕ) (new : Plain) → HasNodeLists F new → (t : Plain) → HasNodeLists F t → HasNodeLists F (replaced id new t)
  lists-replaced id new n (Leaf l) h = leaf_case (λ r k. HasNodeLists F r) id new l (λ e. n) (λ e. h)
  lists-replaced id new n (Split kept j v left right) h = (h.0, (lists-replaced id new n left h.1.0, lists-replaced id new n right h.1.1))

  pub tree-replaced : (id : ℕ) (new t : Plain) → IsSoundTree F new → IsSoundTree F t → IsSoundTree F (replaced id new t)
  tree-replaced id new t n h = record {
    lawful = each_split-replaced id new _ n.lawful t h.lawful;
    narrow = each_split-replaced id new _ n.narrow t h.narrow;
    lists = lists-replaced id new n.lists t h.lists;
  }

-- the leaves of the new tree are judged below the leaf's path
pub judged-replaced : (F : Formulation) (t : Option ℚ) (id : ℕ) (path : Path) (new u : Plain) → IsAt id path u → EachLeaf (λ p l. IsJudgedLeaf F t p l.kept) path new → AreJudged F t u → AreJudged F t (replaced id new u)
judged-replaced F t id path new u at judged h =
    replaced-with (λ p l. IsJudgedLeaf F t p l.kept) id path new [] u (each_both (λ p l. IsJudgedLeaf F t p l.kept) (λ p l. l.id ≡ id → p ≡ path) [] u h at) judged

pub sound-with_leaf : (S : PlainSearch) (id : ℕ) (path : Path) (kept : LeafData) → IsSound S → IsAt id path S.tree.root → HasLists (formulation_of S) kept → IsJudgedLeaf (formulation_of S) (target S.model S.points) path kept → IsSound (search_with_leaf S id kept)
sound-with_leaf S id path kept sound at lists judged =
    let new : Plain = Leaf (record { id = id; kept = kept }) in
    record {
      tree = tree-replaced (formulation_of S) id new S.tree.root (record { lawful = tt; narrow = tt; lists = lists }) sound.tree;
      judged = judged-replaced (formulation_of S) (target S.model S.points) id path new S.tree.root at judged sound.judged;
      points = sound.points;
      few = sound.few;
      pool = sound.pool;
      few_cuts = sound.few_cuts;
    }
