-- Leaves that are due after another cost of a column.
use Rattle.std.specs.Prelude.{◌≡◌, ◌≢◌, ◌⊎◌, ℕ, ◌<◌, ◌≤◌, Bool, true, false, if◌then◌else◌, nat_eq, ◌||◌, List, [], ◌∷◌, length, Option, Some, None, IfSome, MatchOption}
use Rattle.std.specs.Option.{option_map, option_or}
use Rattle.std.proofs.Common.{refl, sym, ap, subst, ◌∙◌, arith, inl, inr, eq-eqb}
use Rattle.std.proofs.lemmas.Bool.{ne_eqb}
use Rattle.std.proofs.lemmas.List.Elements.{All-head, All-tail}
use Rattle.lp_model.specs.Regions.{Path, AreNarrow}
use Rattle.tight_regions.specs.SameBounds.{SameBounds}
use Rattle.lp_model.specs.Formulations.{Formulation}
use Rattle.branch_tree.specs.Tree.{Leaf, Split, left_path, right_path, EachLeaf}
use Rattle.branch_tree.specs.Plain.{LeafKept, Plain, leaves_with, leaf_below, data_of}
use Rattle.branch_tree.specs.declared.node.LeafData.{LeafData}
use Rattle.branch_tree.proofs.CountLemmas.{same_cases}
use Rattle.branch_tree.proofs.LeafLemmas.{leaf_below-split, leaf_below-found}
use Rattle.branch_tree.proofs.PathLaws.{each-found}
use Rattle.spared_leaves.specs.declared.touched.Touched.{Touched}
use Rattle.leaf_totals.specs.declared.keeping.LeafTotals.{LeafTotals}
use Rattle.leaf_totals.specs.Keeping.{list_question, kept_most}
use Rattle.leaf_totals.specs.Likeness.{IsBackBefore, IsBack}
use Rattle.spared_leaves.specs.declared.touched.Touched.TheVariants.{OneCost}
use Rattle.spared_leaves.specs.Touched.{leaves_list}
use Rattle.leaf_judging.specs.declared.closing.LeafNumber.TheVariants.{Empty}
use Rattle.leaf_judging.specs.declared.due.DueLeaf.{DueLeaf}
use Rattle.leaf_judging.specs.declared.entry.LeafEntry.{LeafEntry}
use Rattle.leaf_judging.specs.declared.former.Former.{Former}
use Rattle.leaf_judging.specs.declared.numbers.LeafNumbers.{LeafNumbers}
use Rattle.leaf_judging.specs.Totals.{IsLeafEntry}
use Rattle.leaf_judging.specs.Numbers.{kept_entry, PutsEntry, HasKept, AreNumbersOf}
use Rattle.leaf_judging.specs.Former.{former_formulation, IsAlikeFormer, HoldsFormer, AreFormer}
use Rattle.leaf_judging.specs.private.Entries.{GoesOnFrom}
use Rattle.leaf_judging.specs.private.Ways.{IsFromCost}
use Rattle.leaf_judging.specs.private.Walked.{IsDue, IsDueBy, IsDueAt, is_due_id, IsRegionOf, StandsBy, IsStanding, AreBut, IsNoCost, IsFinishedLeaf}
use Rattle.leaf_judging.proofs.NumberLemmas.{is-other, former-each}
use Rattle.leaf_judging.proofs.SparedEntry.{back-after, room-after, entry-after}
use Rattle.leaf_judging.proofs.SameEntry.{entry-same}
use Rattle.leaf_judging.proofs.WalkedLemmas.{IsOtherDue, stands-same}

some_same : {A : Type 0} (a b : A) → Some a ≡ Some b → a ≡ b
some_same a b h = cc

each-as : (P Q : Path → LeafKept → Type 0) → ((p : Path) (l : LeafKept) → P p l → Q p l) → (path : Path) (t : Plain) → EachLeaf P path t → EachLeaf Q path t
each-as P Q w path (Leaf l) h = w path l h
each-as P Q w path (Split kept j v left right) h = (each-as P Q w (left_path path j v) left h.0, each-as P Q w (right_path path j v) right h.1)

each-two : (P Q : Path → LeafKept → Type 0) → (path : Path) (t : Plain) → EachLeaf P path t → EachLeaf Q path t → EachLeaf (λ p l. P p l × Q p l) path t
each-two P Q path (Leaf l) h k = (h, k)
each-two P Q path (Split kept j v left right) h k = (each-two P Q (left_path path j v) left h.0 k.0, each-two P Q (right_path path j v) right h.1 k.1)

-- ---- the leaf with an id

module _ (P : Path → LeafKept → Type 0) (id : ℕ) where
  abbrev At : Path → LeafKept → Type 0
  At p l = l.id ≡ id → P p l

  pub none-each : (path : Path) (t : Plain) → leaves_with id t ≡ 0 → EachLeaf At path t
  none-each path (Leaf l) none = λ same. absurd (is-other l id none (sym same))
  none-each path (Split kept j v left right) none = (none-each (left_path path j v) left (omega (arith, none)), none-each (right_path path j v) right (omega (arith, none)))

  or_some : {A : Type 0} (a b : Option A) (x : A) → option_or a b ≡ Some x → (a ≡ Some x) ⊎ (b ≡ Some x)
  or_some None b x h = inr h
  or_some (Some y) b x h = inl h

  some-there : (path : Path) (t : Plain) (x : Path × LeafKept) → leaf_below id path t ≡ Some x → 0 < leaves_with id t
  some-there path t x is = subst (λ o. MatchOption o (leaves_with id t ≡ 0) (λ _. 0 < leaves_with id t)) is (leaf_below-found id path t)

  -- what holds of the one that is found
  pub found-each : (path : Path) (t : Plain) (x : Path × LeafKept) → leaves_with id t ≤ 1 → leaf_below id path t ≡ Some x → P x.0 x.1 → EachLeaf At path t
  found-each path (Leaf l) x one is h = by (nat_eq l.id id) is
    where
      by : (b : Bool) → (if b then Some (path, l) else None) ≡ Some x → At path l
      by true e = λ same. subst (λ (k : Path × LeafKept). P k.0 k.1) (sym (some_same (path, l) x e)) h
      by false e = cc
  found-each path (Split kept j v left right) x one is h =
      elim (or_some (leaf_below id (left_path path j v) left) (leaf_below id (right_path path j v) right) x (sym (leaf_below-split id path kept j v left right) ∙ is)) [
        | inl there ↦
            let some = some-there (left_path path j v) left x there in
            (found-each (left_path path j v) left x (omega (arith, one)) there h, none-each (right_path path j v) right (omega (arith, one, some)))
        | inr there ↦
            let some = some-there (right_path path j v) right x there in
            (none-each (left_path path j v) left (omega (arith, one, some)), found-each (right_path path j v) right x (omega (arith, one)) there h)
      ]

-- its data
pub found-data : (o : Option (Path × LeafKept)) (kept : LeafData) → option_map (λ (l : Path × LeafKept). l.1.kept) o ≡ Some kept → (x : Path × LeafKept) × ((o ≡ Some x) × (x.1.kept ≡ kept))
found-data None kept d = cc
found-data (Some x) kept d = (x, (refl, some_same x.1.kept kept d))

-- ---- no more is due

module _ (former : Option Former) (F : Formulation) (numbers : LeafNumbers) where
  stand-kept : ((kept : LeafData) → ¬ IsDue former F kept) → (b : Bool) (path : Path) (l : LeafKept) → StandsBy b former F numbers path l → HasKept F numbers path l
  stand-kept none true path l h = absurd (none l.kept h)
  stand-kept none false path l h = h

  -- where none can be
  pub none-due : (due : List DueLeaf) (t : Plain) → ((kept : LeafData) → ¬ IsDue former F kept) → AreBut former F numbers due t → AreNumbersOf F t numbers
  none-due due t none but = each-as (IsStanding former F numbers due) (HasKept F numbers) (λ p l h. stand-kept none (is_due_id l.id due) p l h.0) [] t but

  -- where all of them were gone through
  pub all-done : (t : Plain) → AreBut former F numbers [] t → AreNumbersOf F t numbers
  all-done t but = each-as (IsStanding former F numbers []) (HasKept F numbers) (λ p l h. h.0) [] t but

  -- a leaf that was put down is due
  pub head-due : (d : DueLeaf) (rest : List DueLeaf) (t : Plain) → AreBut former F numbers (d ∷ rest) t → EachLeaf (IsDueAt former F d) [] t
  head-due d rest t but =
      each-as (IsStanding former F numbers (d ∷ rest)) (IsDueAt former F d)
      (λ p l h same. (subst (λ b. StandsBy b former F numbers p l) (ap (λ b. b || is_due_id l.id rest) (eq-eqb d.id l.id (sym same))) h.0, All-head (IsRegionOf p l.id) d rest h.1 same)) [] t but

pub no-cost : (o : Option Touched) (former : Former) (F : Formulation) (kept : LeafData) → IsNoCost o → ¬ IsDueBy o former F kept
no-cost None former F kept none due = due
no-cost (Some t) former F kept none (p, is) = subst (λ (u : Touched). IsNoCost (Some u)) is.cost none

-- ---- one of them

module _ (former : Option Former) (F : Formulation) (t : Plain) (d : DueLeaf) (old new : LeafNumbers) where
  rest-other : (rest : List DueLeaf) (l : LeafKept) → l.id ≢ d.id → IsOtherDue l.id (d ∷ rest) rest
  rest-other rest l ne = record {
    is_in = sym (ap (λ b. b || is_due_id l.id rest) (ne_eqb d.id l.id (λ e. ne (sym e))));
    regions = λ path all. All-tail (IsRegionOf path l.id) d rest all;
  }

  -- no leaf has it
  pub finish-none : leaves_with d.id t ≡ 0 → new ≡ old → IsFinishedLeaf former F t d old new
  finish-none none same rest but =
      each-as (λ p l. IsStanding former F old (d ∷ rest) p l × (l.id ≡ d.id → ⊥)) (IsStanding former F new rest)
      (λ p l h. stands-same former F old new (d ∷ rest) rest p l (ap (λ (n : LeafNumbers). kept_entry n l.id) same) (rest-other rest l h.1) h.0) [] t
      (each-two (IsStanding former F old (d ∷ rest)) (λ p l. l.id ≡ d.id → ⊥) [] t but (none-each (λ p l. ⊥) d.id [] t none))

  module _ (e : LeafEntry) (puts : PutsEntry old d.id e new) (each : EachLeaf (λ p l. l.id ≡ d.id → IsLeafEntry F p l.kept e) [] t) where
    one-stands : (rest : List DueLeaf) (p : Path) (l : LeafKept) → IsStanding former F old (d ∷ rest) p l → (l.id ≡ d.id → IsLeafEntry F p l.kept e) → IsStanding former F new rest p l
    one-stands rest p l h own = elim (same_cases d.id l.id) [
      | inl k ↦ (by (is_due_id l.id rest) refl (sym k.1), All-tail (IsRegionOf p l.id) d rest h.1)
      | inr k ↦ stands-same former F old new (d ∷ rest) rest p l (puts.1 l.id (λ s. k.1 (sym s))) (rest-other rest l (λ s. k.1 (sym s))) h
    ]
      where
        by : (b : Bool) → is_due_id l.id rest ≡ b → l.id ≡ d.id → StandsBy (is_due_id l.id rest) former F new p l
        by true there same = subst (λ c. StandsBy c former F new p l) (sym there) (subst (λ c. StandsBy c former F old p l) (ap (λ c. c || is_due_id l.id rest) (eq-eqb d.id l.id (sym same))) h.0)
        by false past same = subst (λ c. StandsBy c former F new p l) (sym past) (e, (ap (kept_entry new) same ∙ puts.0, own same))

    pub finish-put : IsFinishedLeaf former F t d old new
    finish-put rest but =
        each-as (λ p l. IsStanding former F old (d ∷ rest) p l × (l.id ≡ d.id → IsLeafEntry F p l.kept e)) (IsStanding former F new rest) (λ p l h. one-stands rest p l h.0 h.1) [] t
        (each-two (IsStanding former F old (d ∷ rest)) (λ p l. l.id ≡ d.id → IsLeafEntry F p l.kept e) [] t but each)

-- ---- the leaf that is found

abbrev cost_col : Touched → ℕ
cost_col (OneCost col) = col.0
cost_col t = 0

-- what it had, and that neither of its lists names what was touched
pub record IsFound (former : Former) (F : Formulation) (col : ℕ) (path : Path) (kept : LeafData) (e : LeafEntry) : Type 0 where
  pub entry : IsLeafEntry (former_formulation former) path kept e
  pub alike : IsAlikeFormer (OneCost (record { 0 = col })) former F
  pub mult : leaves_list (OneCost (record { 0 = col })) former.pool.now F.cuts kept.mult ≡ true
  pub farkas : leaves_list (OneCost (record { 0 = col })) former.pool.now F.cuts kept.farkas ≡ true
  pub within : col < length former.model.now.cols
  pub count : length former.model.now.cols ≡ length F.model.cols

-- the changes beside its id leave the bounds of its path, so what its path has they have
module _ (former : Former) (F : Formulation) (t : Plain) (d : DueLeaf) (col : ℕ) (touched : former.touched ≡ Some (OneCost (record { 0 = col }))) (held : AreFormer (Some former) F t) (due : EachLeaf (IsDueAt (Some former) F d) [] t)
    (kept : LeafData) (data_is : data_of d.id t ≡ Some kept) where
  at : (x : Path × LeafKept) × ((leaf_below d.id [] t ≡ Some x) × (x.1.kept ≡ kept))
  at = found-data (leaf_below d.id [] t) kept data_is

  own : HoldsFormer (Some former) F at.0.0 at.0.1 × (at.0.1.id ≡ d.id)
  own = each-found (HoldsFormer (Some former) F) d.id [] t at.0 (former-each (Some former) F t held) at.1.0

  is_due : IsDue (Some former) F at.0.1.kept × (AreNarrow d.region × SameBounds d.region at.0.0)
  is_due = (each-found (IsDueAt (Some former) F d) d.id [] t at.0 due at.1.0).0 own.1

  pub found-narrow : AreNarrow d.region
  found-narrow = is_due.1.0

  had : IsAlikeFormer (OneCost (record { 0 = col })) former F × HasKept (former_formulation former) former.numbers.now at.0.0 at.0.1
  had = subst (λ o. IfSome o (λ u. IsAlikeFormer u former F × HasKept (former_formulation former) former.numbers.now at.0.0 at.0.1)) touched own.0

  cost : (p : ℕ) × IsFromCost (OneCost (record { 0 = col })) former F at.0.1.kept p
  cost = subst (λ o. IsDueBy o former F at.0.1.kept) touched is_due.0

  back : SameBounds at.0.0 d.region
  back = record { low = sym is_due.1.1.low; high = sym is_due.1.1.high }

  had-kept : IsLeafEntry (former_formulation former) at.0.0 kept had.1.0
  had-kept = subst (λ k. IsLeafEntry (former_formulation former) at.0.0 k had.1.0) at.1.1 had.1.1.1

  pub found-entry : (e : LeafEntry) × ((kept_entry former.numbers.now d.id ≡ Some e) × IsFound former F col d.region kept e)
  found-entry =
      let same : col ≡ cost.0 = ap cost_col cost.1.cost in
      let kept_is = at.1.1 in
      let within = cost.1.within in (
        had.1.0,
        (
          subst (λ i. kept_entry former.numbers.now i ≡ Some had.1.0) own.1 had.1.1.0,
          record {
            entry = entry-same (former_formulation former) at.0.0 d.region back kept.mult kept.farkas had.1.0 had-kept;
            alike = had.0;
            mult = subst (λ (k : LeafData). leaves_list (OneCost (record { 0 = col })) former.pool.now F.cuts k.mult ≡ true) kept_is cost.1.mult;
            farkas = subst (λ (k : LeafData). leaves_list (OneCost (record { 0 = col })) former.pool.now F.cuts k.farkas ≡ true) kept_is cost.1.farkas;
            within = omega (arith, same, within);
            count = cost.1.count;
          },
        ),
      )

  -- what was kept under the id
  pub found-kept : (e : LeafEntry) → Some e ≡ kept_entry former.numbers.now d.id → IsFound former F col d.region kept e
  found-kept e is = subst (IsFound former F col d.region kept) (some_same found-entry.0 e (sym found-entry.1.0 ∙ sym is)) found-entry.1.1

  pub found-some : None ≡ kept_entry former.numbers.now d.id → ⊥
  found-some none = let f = none ∙ found-entry.1.0 in cc

  -- what is so of it is so of each leaf with the id
  pub found-all : (e : LeafEntry) → leaves_with d.id t ≤ 1 → IsLeafEntry F d.region kept e → EachLeaf (λ p l. l.id ≡ d.id → IsLeafEntry F p l.kept e) [] t
  found-all e one is =
      found-each (λ p l. IsLeafEntry F p l.kept e) d.id [] t at.0 one at.1.0
      (subst (λ k. IsLeafEntry F at.0.0 k e) (sym at.1.1) (entry-same F d.region at.0.0 is_due.1.1 kept.mult kept.farkas e is))

module _ (former : Former) (F : Formulation) (col : ℕ) (path : Path) (kept : LeafData) (e : LeafEntry) (h : IsFound former F col path kept e) where
  pub found-back : e.number ≢ Empty → (t : LeafTotals) → IsBackBefore col e.lag t → IsBack col (list_question F path kept.mult true) t
  found-back = back-after (record { 0 = col }) (former_formulation former) F path kept.mult kept.farkas h.alike.model h.alike.cuts h.mult h.farkas h.within h.count e h.entry

  pub found-room : kept_most (list_question F path kept.mult true) ≤ e.lag.totals.room
  found-room = room-after (record { 0 = col }) (former_formulation former) F path kept.mult kept.farkas h.alike.model h.alike.cuts h.mult h.farkas h.within h.count e h.entry

  pub found-after : (new : LeafEntry) → GoesOnFrom F path kept.mult e new → IsLeafEntry F path kept new
  found-after = entry-after (record { 0 = col }) (former_formulation former) F path kept.mult kept.farkas h.alike.model h.alike.cuts h.mult h.farkas h.within h.count e h.entry
