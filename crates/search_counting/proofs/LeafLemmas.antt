-- Leaves by their ids, and open leaves of sound searches.
use Rattle.std.specs.Prelude.{◌≡◌, ℕ, ◌+◌, ◌<◌, ◌≤◌, Bool, true, if◌then◌else◌, nat_eq, [], Some, None, unwrap_or, MatchOption}
use Rattle.std.specs.Option.{option_map, option_or}
use Rattle.std.proofs.Common.{refl, sym, subst, ap, ◌∙◌, inl, inr, arith}
use Rattle.std.proofs.lemmas.Bool.Decides.{eqb_tells}
use Rattle.lp_model.specs.Regions.{Path, IsEmptyRegion}
use Rattle.branch_tree.specs.Tree.{Leaf, Split, left_path, right_path, EachLeaf}
use Rattle.branch_tree.specs.Plain.{Plain, LeafKept, leaves_with, leaf_below}
use Rattle.branch_tree.specs.Numbered.{NumberedTree, IsNumbered}
use Rattle.branch_tree.specs.declared.node.LeafData.{LeafData}
use Rattle.branch_tree.specs.declared.node.LeafState.TheVariants.{IsOpen}
use Rattle.branch_tree.proofs.LeafLemmas.{leaf_below-split, leaf_below-found, leaf_below-none}
use Rattle.sound_searches.specs.Sound.{PlainSearch, IsSound}
use Rattle.sound_searches.specs.Calls.{IsLeafAt}
use Rattle.sound_searches.proofs.SoundLemmas.{each-weaker}
use Rattle.sound_searches.proofs.OpenLemmas.{open-not_aside}

pub once : (T : NumberedTree) → IsNumbered T → (id : ℕ) → leaves_with id T.root ≤ 1
once T n id = let h = n.distinct id in omega (arith, h)

-- ---- the leaf with an id

itself : (j : ℕ) → nat_eq j j ≡ true
itself j = elim (eqb_tells j j) [ inl h ↦ h.0 | inr h ↦ absurd (h.1 refl) ]

-- each leaf is found by its id, where no two have one
pub found_each : (path : Path) (t : Plain) → ((id : ℕ) → leaves_with id t ≤ 1) → EachLeaf (λ p l. leaf_below l.id path t ≡ Some (p, l)) path t
found_each path (Leaf l) once = ap (λ (c : Bool). if c then Some (path, l) else None) (itself l.id)
found_each path (Split kept j v left right) once = (
  each-weaker (λ p l. leaf_below l.id (left_path path j v) left ≡ Some (p, l)) (λ p l. leaf_below l.id path (Split kept j v left right) ≡ Some (p, l))
      (λ p l e. leaf_below-split l.id path kept j v left right ∙ ap (λ o. option_or o (leaf_below l.id (right_path path j v) right)) e)
      (left_path path j v) left (found_each (left_path path j v) left (λ id. let h = once id in omega arith)),
  each-weaker (λ p l. leaf_below l.id (right_path path j v) right ≡ Some (p, l)) (λ p l. leaf_below l.id path (Split kept j v left right) ≡ Some (p, l))
      (λ p l e.
      let some : 0 < leaves_with l.id right = subst (λ o. MatchOption o (leaves_with l.id right ≡ 0) (λ _. 0 < leaves_with l.id right)) e (leaf_below-found l.id (right_path path j v) right) in
      let h : leaves_with l.id left + leaves_with l.id right ≤ 1 = once l.id in
      leaf_below-split l.id path kept j v left right ∙ ap (λ o. option_or o (leaf_below l.id (right_path path j v) right)) (leaf_below-none l.id (left_path path j v) left (omega arith)) ∙ e)
      (right_path path j v) right (found_each (right_path path j v) right (λ id. let h = once id in omega arith)),
)

pub some_is : {A : Type 0} (a b : A) → Some a ≡ Some b → a ≡ b
some_is a b e = ap (λ o. unwrap_or o a) e

-- the leaf with the id has this path and these data, and no other leaf has the id
pub at_leaf : (t : Plain) (id : ℕ) (path : Path) (kept : LeafData) → ((id : ℕ) → leaves_with id t ≤ 1) → IsLeafAt t id path kept → EachLeaf (λ p l. l.id ≡ id → (p ≡ path) × (l.kept ≡ kept)) [] t
at_leaf t id path kept once at =
    each-weaker (λ p l. leaf_below l.id [] t ≡ Some (p, l)) (λ p l. l.id ≡ id → (p ≡ path) × (l.kept ≡ kept))
    (λ p l e same.
    let found : leaf_below id [] t ≡ Some (p, l) = subst (λ n. leaf_below n [] t ≡ Some (p, l)) same e in (
      some_is p path (sym (ap (option_map (λ (q : Path × LeafKept). q.0)) found) ∙ at.path_is),
      some_is l.kept kept (sym (ap (option_map (λ (q : Path × LeafKept). q.1.kept)) found) ∙ at.data_is),
    ))
    [] t (found_each [] t once)

-- ---- open leaves

-- the region of an open leaf is not seen to be empty
pub open-found : (S : PlainSearch) → IsSound S → (id : ℕ) (path : Path) (kept : LeafData) → IsLeafAt S.tree.root id path kept → kept.state ≡ IsOpen → ¬ IsEmptyRegion S.model path
open-found S sound id path kept at is_open empty = open-not_aside S sound id path kept at is_open (inl empty)
