-- The queue of a tree after one leaf is changed.
use Rattle.std.specs.Prelude.{◌≡◌, ◌≢◌, ℕ, ◌<◌, Bool, true, false, [], Option, Some, None, nat_eq, if◌then◌else◌}
use Rattle.std.specs.Option.{MatchOption, option_or}
use Rattle.std.proofs.Common.{refl, sym, subst, ap, ◌∙◌, arith, inl, inr}
use Rattle.std.proofs.lemmas.Bool.{cases_lt}
use Rattle.lp_model.specs.Regions.{Path}
use Rattle.branch_tree.specs.Tree.{Tree, Leaf, Split, left_path, right_path, EachLeaf}
use Rattle.branch_tree.specs.Plain.{LeafKept, Plain, leaves_with, leaf_below, data_of, replaced}
use Rattle.branch_tree.specs.declared.node.LeafData.{LeafData}
use Rattle.branch_tree.proofs.CountLemmas.{leaf_case, same_cases}
use Rattle.branch_tree.proofs.LeafLemmas.{leaf_below-found, leaf_below-split}
use Rattle.leaf_judging.specs.Queued.{SomeLeaf, HasMultipliers, HasState}
use Rattle.sound_searches.proofs.SoundLemmas.{each-weaker}
use Rattle.sound_searches.proofs.PlaceLemmas.{leaf_of_data}

-- ---- some leaf

pub some-weaker : {S L : Type 0} (P Q : Path → L → Type 0) → ((p : Path) (l : L) → P p l → Q p l) → (path : Path) (t : Tree S L) → SomeLeaf P path t → SomeLeaf Q path t
some-weaker P Q w path (Leaf l) h = w path l h
some-weaker P Q w path (Split kept j v left right) (inl h) = inl (some-weaker P Q w (left_path path j v) left h)
some-weaker P Q w path (Split kept j v left right) (inr h) = inr (some-weaker P Q w (right_path path j v) right h)

-- ---- one leaf made into another tree, where the leaf with the id has this path and D holds of it

module _ (id : ℕ) (at : Path) (new : Plain) (D P Q : Path → LeafKept → Type 0) (others : (p : Path) (l : LeafKept) → l.id ≢ id → P p l → Q p l) where
  abbrev Is : Path → LeafKept → Type 0
  Is p l = l.id ≡ id → (p ≡ at) × D p l

  pub each-changed : ((l : LeafKept) → l.id ≡ id → D at l → P at l → EachLeaf Q at new) → (path : Path) (u : Plain) → EachLeaf Is path u → EachLeaf P path u → EachLeaf Q path (replaced id new u)
  each-changed there path (Leaf l) is h =
      leaf_case (λ r k. EachLeaf Q path r) id new l
      (λ e. subst (λ p. EachLeaf Q p new) (sym (is e).0) (there l e (subst (λ p. D p l) (is e).0 (is e).1) (subst (λ p. P p l) (is e).0 h)))
      (λ e. others path l e h)
  each-changed there path (Split kept j v left right) is h = (each-changed there (left_path path j v) left is.0 h.0, each-changed there (right_path path j v) right is.1 h.1)

  pub some-changed : ((l : LeafKept) → l.id ≡ id → D at l → P at l → SomeLeaf Q at new) → (path : Path) (u : Plain) → EachLeaf Is path u → SomeLeaf P path u → SomeLeaf Q path (replaced id new u)
  some-changed there path (Leaf l) is h =
      leaf_case (λ r k. SomeLeaf Q path r) id new l
      (λ e. subst (λ p. SomeLeaf Q p new) (sym (is e).0) (there l e (subst (λ p. D p l) (is e).0 (is e).1) (subst (λ p. P p l) (is e).0 h)))
      (λ e. others path l e h)
  some-changed there path (Split kept j v left right) is (inl h) = inl (some-changed there (left_path path j v) left is.0 h)
  some-changed there path (Split kept j v left right) is (inr h) = inr (some-changed there (right_path path j v) right is.1 h)

-- what holds of some leaf of the new tree holds of some leaf after it took a leaf's place
pub some-put : (id : ℕ) (at : Path) (new : Plain) (Q : Path → LeafKept → Type 0) → SomeLeaf Q at new → (path : Path) (u : Plain) → EachLeaf (λ p l. l.id ≡ id → p ≡ at) path u → 0 < leaves_with id u → SomeLeaf Q path (replaced id new u)
some-put id at new Q h path (Leaf l) is some =
    leaf_case (λ r k. 0 < k → SomeLeaf Q path r) id new l (λ e z. subst (λ p. SomeLeaf Q p new) (sym (is e)) h) (λ e z. absurd (omega arith)) some
some-put id at new Q h path (Split kept j v left right) is some =
    elim (cases_lt 0 (leaves_with id left)) [
      | inl there ↦ inl (some-put id at new Q h (left_path path j v) left is.0 there)
      | inr none ↦ inr (some-put id at new Q h (right_path path j v) right is.1 (omega arith))
    ]

-- a leaf that is there has an id that is there
pub some-id : (id : ℕ) (P : Path → LeafKept → Type 0) → ((p : Path) (l : LeafKept) → P p l → l.id ≡ id) → (path : Path) (u : Plain) → SomeLeaf P path u → 0 < leaves_with id u
some-id id P is path (Leaf l) h = elim (same_cases l.id id) [ inl e ↦ omega (arith, e.0) | inr e ↦ absurd (e.1 (is path l h)) ]
some-id id P is path (Split kept j v left right) (inl h) = omega (arith, some-id id P is (left_path path j v) left h)
some-id id P is path (Split kept j v left right) (inr h) = omega (arith, some-id id P is (right_path path j v) right h)

-- ---- the leaf that is found

some_same : {A : Type 0} (a b : A) → Some a ≡ Some b → a ≡ b
some_same a b h = cc

module _ (id : ℕ) (found : Path × LeafKept) where
  abbrev IsFound : Path → LeafKept → Type 0
  IsFound p l = l.id ≡ id → l ≡ found.1

  found-none : (path : Path) (t : Plain) → leaves_with id t ≡ 0 → EachLeaf IsFound path t
  found-none path (Leaf l) none = λ e. elim (same_cases l.id id) [ inl h ↦ absurd (omega (arith, h.0)) | inr h ↦ absurd (h.1 e) ]
  found-none path (Split kept j v left right) none = (found-none (left_path path j v) left (omega arith), found-none (right_path path j v) right (omega arith))

  -- where one leaf has the id, it is the one that is found
  found-one : (path : Path) (t : Plain) → leaves_with id t ≡ 1 → leaf_below id path t ≡ Some found → EachLeaf IsFound path t
  found-one path (Leaf l) one h = by (nat_eq l.id id) refl h
    where
      by : (c : Bool) → nat_eq l.id id ≡ c → (if c then Some (path, l) else None) ≡ Some found → l.id ≡ id → l ≡ found.1
      by true f g e = ap (λ (k : Path × LeafKept). k.1) (some_same (path, l) found g)
      by false f g e = cc
  found-one path (Split kept j v left right) one h =
      by (leaf_below id (left_path path j v) left) refl (leaf_below-found id (left_path path j v) left) (sym (leaf_below-split id path kept j v left right) ∙ h) (found-one (left_path path j v) left) (found-one (right_path path j v) right)
    where
      by : (o : Option (Path × LeafKept)) → leaf_below id (left_path path j v) left ≡ o → MatchOption (leaf_below id (left_path path j v) left) (leaves_with id left ≡ 0) (λ _. 0 < leaves_with id left)
          → option_or (leaf_below id (left_path path j v) left) (leaf_below id (right_path path j v) right) ≡ Some found
          → (leaves_with id left ≡ 1 → leaf_below id (left_path path j v) left ≡ Some found → EachLeaf IsFound (left_path path j v) left)
          → (leaves_with id right ≡ 1 → leaf_below id (right_path path j v) right ≡ Some found → EachLeaf IsFound (right_path path j v) right)
          → EachLeaf IsFound path (Split kept j v left right)
      by None e m g in_left in_right =
          let none : leaves_with id left ≡ 0 = subst (λ z. MatchOption z (leaves_with id left ≡ 0) (λ _. 0 < leaves_with id left)) e m in
          (found-none (left_path path j v) left none, in_right (omega arith) (subst (λ z. option_or z (leaf_below id (right_path path j v) right) ≡ Some found) e g))
      by (Some p) e m g in_left in_right =
          let some : 0 < leaves_with id left = subst (λ z. MatchOption z (leaves_with id left ≡ 0) (λ _. 0 < leaves_with id left)) e m in (
            in_left (omega arith) (e ∙ subst (λ z. option_or z (leaf_below id (right_path path j v) right) ≡ Some found) e g),
            found-none (right_path path j v) right (omega arith),
          )

-- each leaf with the id has the data that are found
pub has-data : (id : ℕ) (t : Plain) (kept : LeafData) → leaves_with id t ≡ 1 → data_of id t ≡ Some kept → EachLeaf (λ p l. l.id ≡ id → l.kept ≡ kept) [] t
has-data id t kept one found =
    let l = leaf_of_data (leaf_below id [] t) kept found in
    each-weaker (λ p k. k.id ≡ id → k ≡ l.0.1) (λ p k. k.id ≡ id → k.kept ≡ kept) (λ p k h e. ap (λ (m : LeafKept). m.kept) (h e) ∙ l.1.1) [] t (found-one id l.0 [] t one l.1.0)

-- its multipliers
pub own-multipliers : (id : ℕ) (t : Plain) (kept : LeafData) → leaves_with id t ≡ 1 → data_of id t ≡ Some kept → HasMultipliers id kept t
own-multipliers id t kept one found =
    each-weaker (λ p l. l.id ≡ id → l.kept ≡ kept) (λ p l. l.id ≡ id → (l.kept.mult ≡ kept.mult) × (l.kept.farkas ≡ kept.farkas))
    (λ p l h e. (ap (λ (k : LeafData). k.mult) (h e), ap (λ (k : LeafData). k.farkas) (h e))) [] t (has-data id t kept one found)

-- and its state
pub own-state : (id : ℕ) (t : Plain) (kept : LeafData) → leaves_with id t ≡ 1 → data_of id t ≡ Some kept → HasState id kept.state t
own-state id t kept one found = each-weaker (λ p l. l.id ≡ id → l.kept ≡ kept) (λ p l. l.id ≡ id → l.kept.state ≡ kept.state) (λ p l h e. ap (λ (k : LeafData). k.state) (h e)) [] t (has-data id t kept one found)
