-- What is kept of leaves: under one id, of leaves in other states, and from before an edit.
use Rattle.std.specs.Prelude.{◌≡◌, ◌≢◌, ℕ, ◌<◌, false, List, [], ◌∷◌, drop, Option, Some, None, IsSome, IfSome, Box, box_value}
use Rattle.std.specs.Option.{option_map}
use Rattle.std.specs.declared.cmp.Ordering.{Ordering}
use Rattle.std.specs.declared.cmp.Ordering.TheVariants.{Less, Equal, Greater}
use Rattle.std.specs.Ordering.{MatchOrdering, nat_cmp, is_eq}
use Rattle.std.proofs.Common.{refl, sym, ◌∙◌, arith, inl, inr}
use Rattle.std.proofs.lemmas.Cmp.{ranked}
use Rattle.lp_model.specs.Regions.{Path}
use Rattle.lp_model.specs.Formulations.{Formulation}
use Rattle.branch_tree.specs.Tree.{Leaf, Split, left_path, right_path, EachLeaf}
use Rattle.branch_tree.specs.Plain.{LeafKept, Plain, leaves_with}
use Rattle.branch_tree.specs.Leaves.{leaf_count, with_state, with_states}
use Rattle.branch_tree.specs.declared.node.LeafState.{LeafState}
use Rattle.branch_tree.proofs.CountLemmas.{same_cases}
use Rattle.spared_leaves.specs.declared.touched.Touched.{Touched}
use Rattle.leaf_judging.specs.declared.numbers.LeafNumbers.{LeafNumbers}
use Rattle.leaf_judging.specs.declared.former.Former.{Former}
use Rattle.leaf_judging.specs.Former.{former_formulation, IsAlikeFormer, HoldsFormer, AreFormer}
use Rattle.leaf_judging.specs.Numbers.{kept_entry, HasKept, AreNumbersOf}

-- another id is not found
pub apart-id : (a b : ℕ) → b ≢ a → is_eq (nat_cmp a b) ≡ false
apart-id a b ne = by (nat_cmp a b) (ranked a b (nat_cmp a b) refl)
  where
    by : (o : Ordering) → MatchOrdering o (a < b) (a ≡ b) (b < a) → is_eq o ≡ false
    by Less k = refl
    by Equal k = absurd (ne (sym k))
    by Greater k = refl

-- ---- on the heap

-- what is held where something is kept is held
pub some-held : {X Z : Type 0} (o : Option (Box X Z)) → IsSome (option_map box_value o) → IsSome o
some-held None h = h
some-held (Some held) h = refl

-- ---- other states

-- what holds of each leaf, and not by its state, holds of it in another state
pub each-states : (P : Path → LeafKept → Type 0) → ((p : Path) (l : LeafKept) (s : LeafState) → P p l → P p (record { id = l.id; kept = with_state s l.kept })) → (path : Path) (states : List LeafState) (t : Plain) → EachLeaf P path t → EachLeaf P path (with_states states t)
each-states P w path [] (Leaf l) h = h
each-states P w path (s ∷ states) (Leaf l) h = w path l s h
each-states P w path [] (Split kept j v left right) h = (each-states P w (left_path path j v) [] left h.0, each-states P w (right_path path j v) (drop (leaf_count left) []) right h.1)
each-states P w path (s ∷ states) (Split kept j v left right) h = (each-states P w (left_path path j v) (s ∷ states) left h.0, each-states P w (right_path path j v) (drop (leaf_count left) (s ∷ states)) right h.1)

pub numbers-states : (F : Formulation) (numbers : LeafNumbers) (states : List LeafState) (t : Plain) → AreNumbersOf F t numbers → AreNumbersOf F (with_states states t) numbers
numbers-states F numbers states t h = each-states (HasKept F numbers) (λ p l s k. k) [] states t h

-- ---- a walk

pub has-own : (l : LeafKept) → 0 < leaves_with l.id (Leaf l)
has-own l = elim (same_cases l.id l.id) [ inl k ↦ omega (arith, k.0) | inr k ↦ absurd (k.1 refl) ]

pub is-other : (l : LeafKept) (i : ℕ) → leaves_with i (Leaf l) ≡ 0 → i ≢ l.id
is-other l i none e = elim (same_cases l.id i) [ inl k ↦ absurd (omega (arith, k.0, none)) | inr k ↦ k.1 (sym e) ]

module _ (F : Formulation) where
  -- what is kept of a tree's leaves stays where nothing changes under their ids
  pub each-kept : (a b : LeafNumbers) (path : Path) (t : Plain) → ((i : ℕ) → 0 < leaves_with i t → kept_entry b i ≡ kept_entry a i) → EachLeaf (HasKept F a) path t → EachLeaf (HasKept F b) path t
  each-kept a b path (Leaf l) same h = (h.0, (same l.id (has-own l) ∙ h.1.0, h.1.1))
  each-kept a b path (Split kept j v left right) same h = (
    each-kept a b (left_path path j v) left (λ i some. same i (omega (arith, some))) h.0,
    each-kept a b (right_path path j v) right (λ i some. same i (omega (arith, some))) h.1,
  )

abbrev HoldsBy : Formulation → Former → Option Touched → Path → LeafKept → Type 0
HoldsBy F former o path l = IfSome o (λ u. IsAlikeFormer u former F × HasKept (former_formulation former) former.numbers.now path l)

-- what is said of a tree's former numbers is said of each leaf's
pub former-each : (former : Option Former) (F : Formulation) (t : Plain) → AreFormer former F t → EachLeaf (HoldsFormer former F) [] t
former-each None F t h = none [] t
  where
    none : (path : Path) (u : Plain) → EachLeaf (HoldsFormer None F) path u
    none path (Leaf l) = tt
    none path (Split kept j v left right) = (none (left_path path j v) left, none (right_path path j v) right)
former-each (Some former) F t h = by former.touched h
  where
    each : (u : Touched) → IsAlikeFormer u former F → (path : Path) (tree : Plain) → EachLeaf (HasKept (former_formulation former) former.numbers.now) path tree → EachLeaf (HoldsBy F former (Some u)) path tree
    each u alike path (Leaf l) k = (alike, k)
    each u alike path (Split k j v left right) kept = (each u alike (left_path path j v) left kept.0, each u alike (right_path path j v) right kept.1)

    none : (path : Path) (tree : Plain) → EachLeaf (HoldsBy F former None) path tree
    none path (Leaf l) = tt
    none path (Split kept j v left right) = (none (left_path path j v) left, none (right_path path j v) right)

    by : (o : Option Touched) → IfSome o (λ u. IsAlikeFormer u former F × AreNumbersOf (former_formulation former) t former.numbers.now) → EachLeaf (HoldsBy F former o) [] t
    by None k = none [] t
    by (Some u) (alike, kept) = each u alike [] t kept
