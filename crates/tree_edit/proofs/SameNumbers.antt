-- The entries that are kept of a tree's leaves, after each change.
use Rattle.std.specs.Prelude.{◌≡◌, ◌≢◌, ℕ, ◌+◌, ◌<◌, [], Option, Some, IsSome, ℤ}
use Rattle.std.specs.Option.{option_map}
use Rattle.std.proofs.Common.{refl, sym, subst, ap, ◌∙◌, arith, inl, inr}
use Rattle.std.proofs.lemmas.Bool.{cases_lt}
use Rattle.frac128.specs.Rational.{ℚ}
use Rattle.lp_model.specs.Regions.{Path}
use Rattle.lp_model.specs.Formulations.{Formulation}
use Rattle.lp_model.specs.declared.types.Basis.{Basis}
use Rattle.leaf_dual.specs.Dual.{Multipliers}
use Rattle.branch_tree.specs.Tree.{Leaf, Split, left_path, right_path, EachLeaf}
use Rattle.branch_tree.specs.Plain.{LeafKept, Plain, leaf_below, leaves_with, data_of, replaced}
use Rattle.branch_tree.specs.declared.node.LeafData.{LeafData}
use Rattle.branch_tree.proofs.CountLemmas.{same_cases}
use Rattle.branch_tree.proofs.PathLaws.{each-found}
use Rattle.leaf_judging.specs.declared.closing.LeafNumber.{LeafNumber}
use Rattle.leaf_judging.specs.declared.entry.LeafEntry.{LeafEntry}
use Rattle.leaf_judging.specs.declared.numbers.LeafNumbers.{LeafNumbers}
use Rattle.leaf_judging.specs.Closing.{IsNumber, IsJudged, IsJudgedLeaf}
use Rattle.leaf_judging.specs.Judged.{AreJudged}
use Rattle.leaf_judging.specs.Choosing.{finite_number}
use Rattle.leaf_judging.specs.Queued.{IsFiniteNumber, HasFiniteNumber, HasMultipliers, HasState}
use Rattle.leaf_judging.specs.Totals.{IsEntryOf}
use Rattle.leaf_judging.specs.Numbers.{kept_entry, kept_number, PutsEntry, KeepsOtherNumbers, KeepsOtherTwo, HasBoth, HasKept, AreNumbersOf}
use Rattle.sound_searches.specs.Sound.{PlainSearch, formulation_of}
use Rattle.sound_searches.specs.Calls.{IsLeafNumberAnswer}
use Rattle.sound_searches.specs.Placing.{IsAt, split_with_leaves}
use Rattle.sound_searches.proofs.ClosedTree.{each_both}
use Rattle.sound_searches.proofs.SoundLemmas.{each-weaker, none_with}
use Rattle.tree_edit.proofs.QueuedLemmas.{each-changed}
use Rattle.sound_searches.proofs.PlaceLemmas.{leaf_of_data}
use Rattle.tree_edit.proofs.QueueChanges.{Own, owned}

-- ---- what is kept

number-of_entry : (numbers : LeafNumbers) (id : ℕ) (e : LeafEntry) → kept_entry numbers id ≡ Some e → kept_number numbers id ≡ Some e.number
number-of_entry numbers id e is = ap (option_map (λ (k : LeafEntry). k.number)) is

-- the number of the leaf with the id
pub kept-leaf_number : (F : Formulation) (t : Plain) (numbers : LeafNumbers) (id : ℕ) (n : LeafNumber) (r : Option ℚ) → AreNumbersOf F t numbers → ((m : LeafNumber) → kept_number numbers id ≡ Some m → n ≡ m) → r ≡ finite_number n → HasFiniteNumber F t (record { leaf_number = r; id = id })
kept-leaf_number F t numbers id n r are same is =
    each-weaker (HasKept F numbers) (λ p l. l.id ≡ id → IsFiniteNumber F p l.kept r)
    (λ p l h e. let n : LeafNumber = h.0.number in (n, (h.1.1.number, is ∙ ap finite_number (same n (number-of_entry numbers id h.0 (subst (λ i. kept_entry numbers i ≡ Some h.0) e h.1.0)))))) [] t are

some-kept : (o : Option LeafEntry) (n : LeafEntry) → o ≡ Some n → IsSome o
some-kept o n e = subst IsSome (sym e) refl

-- a leaf that is there has an entry
pub kept-there : (F : Formulation) (numbers : LeafNumbers) (id : ℕ) (path : Path) (t : Plain) → EachLeaf (HasKept F numbers) path t → 0 < leaves_with id t → IsSome (kept_entry numbers id)
kept-there F numbers id path (Leaf l) h some =
    elim (same_cases l.id id) [
      | inl k ↦ some-kept (kept_entry numbers id) h.0 (subst (λ i. kept_entry numbers i ≡ Some h.0) k.1 h.1.0)
      | inr k ↦ absurd (omega (arith, k.0, some))
    ]
kept-there F numbers id path (Split kept j v left right) h some =
    elim (cases_lt 0 (leaves_with id left)) [
      | inl there ↦ kept-there F numbers id (left_path path j v) left h.0 there
      | inr none ↦ kept-there F numbers id (right_path path j v) right h.1 (omega arith)
    ]

-- what is kept of the leaf that is found is its number
pub number-found : (S : PlainSearch) (numbers : LeafNumbers) (id : ℕ) (kept : LeafData) (o : Option LeafNumber) → AreNumbersOf (formulation_of S) S.tree.root numbers → data_of id S.tree.root ≡ Some kept → o ≡ kept_number numbers id → IsLeafNumberAnswer S id o
number-found S numbers id kept o are found is =
    let l = leaf_of_data (leaf_below id [] S.tree.root) kept found in
    let at = each-found (HasKept (formulation_of S) numbers) id [] S.tree.root l.0 are l.1.0 in
    let kept_of : LeafEntry = at.0.0 in
    let n : LeafNumber = kept_of.number in
    let has : kept_number numbers id ≡ Some n = number-of_entry numbers id kept_of (subst (λ i. kept_entry numbers i ≡ Some kept_of) at.1 at.0.1.0) in
    subst (IsLeafNumberAnswer S id) (sym (is ∙ has))
    (record {
      path = l.0.0;
      kept = kept;
      leaf = record { path_is = ap (option_map (λ (k : Path × LeafKept). k.0)) l.1.0; data_is = found };
      number_is = subst (λ (k : LeafData). IsNumber (formulation_of S) l.0.0 k.mult k.farkas n) l.1.1 at.0.1.1.number;
    })

-- ---- a leaf that keeps its multipliers

-- data with the multipliers of the leaf that is found are judged as it is
pub own-judged : (F : Formulation) (target : Option ℚ) (t : Plain) (id : ℕ) (path : Path) (kept found : LeafData) → IsAt id path t → HasMultipliers id kept t → AreJudged F target t → data_of id t ≡ Some found → IsJudged F target path kept.mult kept.farkas found.state
own-judged F target t id path kept found at own judged is =
    let l = leaf_of_data (leaf_below id [] t) found is in
    let all = each_both (λ p k. k.id ≡ id → p ≡ path) (λ p k. (k.id ≡ id → (k.kept.mult ≡ kept.mult) × (k.kept.farkas ≡ kept.farkas)) × IsJudgedLeaf F target p k.kept) [] t at
    (each_both (λ p k. k.id ≡ id → (k.kept.mult ≡ kept.mult) × (k.kept.farkas ≡ kept.farkas)) (λ p k. IsJudgedLeaf F target p k.kept) [] t own judged) in
    let it = each-found (λ p k. (k.id ≡ id → p ≡ path) × ((k.id ≡ id → (k.kept.mult ≡ kept.mult) × (k.kept.farkas ≡ kept.farkas)) × IsJudgedLeaf F target p k.kept)) id [] t l.0 all l.1.0 in
    let same_path : l.0.0 ≡ path = it.0.0 it.1 in
    let same = it.0.1.0 it.1 in
    let same_state : l.0.1.kept.state ≡ found.state = ap (λ (k : LeafData). k.state) l.1.1 in
    subst (λ P. P) (λ i. IsJudged F target (same_path i) (same.0 i) (same.1 i) (same_state i)) it.0.1.1

module _ (F : Formulation) (t : Plain) (numbers : LeafNumbers) (are : AreNumbersOf F t numbers) where
  pub numbers-stay : (id : ℕ) (path : Path) (kept : LeafData) → IsAt id path t → HasMultipliers id kept t → HasState id kept.state t → AreNumbersOf F (replaced id (Leaf (record { id = id; kept = kept })) t) numbers
  numbers-stay id path kept at own state =
      each-changed id path (Leaf (record { id = id; kept = kept })) (Own F t id path kept at own state) (HasKept F numbers) (HasKept F numbers) (λ p l ne h. h)
      (λ l e o h. (
        h.0,
        (
          subst (λ i. kept_entry numbers i ≡ Some h.0) e h.1.0,
          subst (λ m. IsEntryOf F path m kept.farkas h.0) o.0 (subst (λ f. IsEntryOf F path l.kept.mult f h.0) o.1.0 h.1.1),
        ),
      )) [] t (owned F t id path kept at own state) are

  -- ---- a leaf with another entry

  pub numbers-put : (id : ℕ) (path : Path) (kept : LeafData) (n : LeafEntry) (new : LeafNumbers) → IsAt id path t → IsEntryOf F path kept.mult kept.farkas n → PutsEntry numbers id n new → AreNumbersOf F (replaced id (Leaf (record { id = id; kept = kept })) t) new
  numbers-put id path kept n new at is puts =
      each-changed id path (Leaf (record { id = id; kept = kept })) (λ p l. Unit {0}) (HasKept F numbers) (HasKept F new)
      (λ p l ne h. (h.0, (puts.1 l.id ne ∙ h.1.0, h.1.1)))
      (λ l e d h. (n, (puts.0, is))) [] t
      (each-weaker (λ p l. l.id ≡ id → p ≡ path) (λ p l. l.id ≡ id → (p ≡ path) × Unit {0}) (λ p l h e. (h e, tt)) [] t at) are

  -- ---- two new ids

  module _ (first second : ℕ) (first_none : leaves_with first t ≡ 0) (second_none : leaves_with second t ≡ 0) where
    abbrev IsOld : Path → LeafKept → Type 0
    IsOld p l = HasKept F numbers p l × ((l.id ≢ first) × (l.id ≢ second))

    old : EachLeaf IsOld [] t
    old =
        each_both (HasKept F numbers) (λ p l. (l.id ≢ first) × (l.id ≢ second)) [] t are
        (each_both (λ p l. l.id ≢ first) (λ p l. l.id ≢ second) [] t (none_with first [] t first_none) (none_with second [] t second_none))

    pub numbers-fresh : (mid : LeafNumbers) → KeepsOtherTwo numbers first second mid → AreNumbersOf F t mid
    numbers-fresh mid others = each-weaker IsOld (HasKept F mid) (λ p l h. (h.0.0, (others l.id h.1.0 h.1.1 ∙ h.0.1.0, h.0.1.1))) [] t old

    pub numbers-two : (id : ℕ) (path : Path) (new : Plain) (mid last : LeafNumbers) → IsAt id path t → KeepsOtherTwo numbers first second mid → KeepsOtherNumbers mid id last → EachLeaf (HasKept F last) path new → AreNumbersOf F (replaced id new t) last
    numbers-two id path new mid last at others rest made =
        each-changed id path new (λ p l. Unit {0}) IsOld (HasKept F last)
        (λ p l ne h. (h.0.0, (rest l.id ne ∙ others l.id h.1.0 h.1.1 ∙ h.0.1.0, h.0.1.1)))
        (λ l e d h. made) [] t
        (each-weaker (λ p l. l.id ≡ id → p ≡ path) (λ p l. l.id ≡ id → (p ≡ path) × Unit {0}) (λ p l h e. (h e, tt)) [] t at) old

-- a leaf that is split, whose children have these entries
pub numbers-split : (F : Formulation) (t : Plain) (numbers mid new : LeafNumbers) (last id : ℕ) (path : Path) (j : ℕ) (v : ℤ) (mult : Multipliers) (basis : Basis) (left right : LeafData) (m n : LeafEntry) → AreNumbersOf F t numbers → IsAt id path t
    → leaves_with (last + 1) t ≡ 0 → leaves_with (last + 2) t ≡ 0 → last + 1 ≢ id → last + 2 ≢ id
    → HasBoth mid (last + 1) m (last + 2) n → KeepsOtherTwo numbers (last + 1) (last + 2) mid → KeepsOtherNumbers mid id new
    → IsEntryOf F (left_path path j v) left.mult left.farkas m → IsEntryOf F (right_path path j v) right.mult right.farkas n
    → AreNumbersOf F (replaced id (split_with_leaves last id j v mult basis left right) t) new
numbers-split F t numbers mid new last id path j v mult basis left right m n are at first_none second_none first second both others rest is_left is_right =
    numbers-two F t numbers are (last + 1) (last + 2) first_none second_none id path (split_with_leaves last id j v mult basis left right) mid new at others rest
    ((m, (rest (last + 1) first ∙ both.0, is_left)), (n, (rest (last + 2) second ∙ both.1, is_right)))
