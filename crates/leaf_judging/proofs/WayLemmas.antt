-- What of a leaf's entry stands after an edit, and how many terms may be added then.
use Rattle.std.specs.Prelude.{◌≡◌, ℕ, ◌+◌, ◌<◌, ◌≤◌, ◌*◌, ◌/◌, Bool, true, false, if◌then◌else◌, ◌&&◌, length, Option, Some, None, IfSome}
use Rattle.std.proofs.Common.{refl, sym, ap, subst, ◌∙◌, arith, inl, inr}
use Rattle.std.proofs.lemmas.Bool.{cases_lt}
use Rattle.lp_model.specs.Program.{Program}
use Rattle.lp_model.specs.Regions.{Path}
use Rattle.lp_model.specs.Formulations.{Formulation}
use Rattle.lp_model.specs.Lawful.{IsLawful}
use Rattle.lp_model.specs.Limits.{pool_limit}
use Rattle.lp_model.specs.declared.types.ColId.{ColId}
use Rattle.lp_model.specs.declared.types.RowId.{RowId}
use Rattle.lp_model.proofs.ModelLaws.{few_rows, few_columns}
use Rattle.leaf_dual.specs.ShortTerms.{AreFewTerms}
use Rattle.tight_regions.specs.SameBounds.{SameBounds}
use Rattle.leaf_dual.proofs.SameRegion.{other_way}
use Rattle.branch_tree.specs.Plain.{LeafKept}
use Rattle.branch_tree.specs.declared.node.LeafData.{LeafData}
use Rattle.spared_leaves.specs.declared.touched.Touched.{Touched}
use Rattle.spared_leaves.specs.declared.touched.Touched.TheVariants.{Nothing, OneRow, RowSides, OneCost, OneColumn}
use Rattle.spared_leaves.specs.Touched.{column_touched, leaves_list}
use Rattle.spared_leaves.specs.Alike.{AreAlikeBut}
use Rattle.spared_leaves.specs.Spared.{IsAbsent}
use Rattle.leaf_judging.specs.declared.entry.LeafEntry.{LeafEntry}
use Rattle.leaf_judging.specs.declared.former.Former.{Former}
use Rattle.leaf_judging.specs.declared.former.Way.{Way}
use Rattle.leaf_judging.specs.declared.former.Way.TheVariants.{Spared, FromCost, FromSide, Anew}
use Rattle.leaf_judging.specs.Totals.{IsLeafEntry, terms_of, touched_steps, leaf_steps}
use Rattle.leaf_judging.specs.Numbers.{kept_entry, HasKept}
use Rattle.leaf_judging.specs.Former.{former_formulation, IsAlikeFormer, HoldsFormer, former_leaf_steps}
use Rattle.leaf_judging.specs.private.Ways.{KeepsBlocks, IsNamedWay, IsWayBy, IsWayOf, IsWayAfter}
use Rattle.leaf_judging.specs.private.Entries.{MovesSide}
use Rattle.leaf_judging.specs.private.Walked.{IsDue, IsDueBy, former_kept, IsWayAt}
use Rattle.leaf_judging.proofs.SameEntry.{entry-same}
use Rattle.leaf_judging.proofs.SparedEntry.{entry-spared, entry-moved, moved-few}

some_same : {A : Type 0} (a b : A) → Some a ≡ Some b → a ≡ b
some_same a b h = cc

-- ---- columns

below-same : (a b : ℕ) → ((j : ℕ) → j < a → j < b) → a ≤ b
below-same a b h = elim (cases_lt b a) [ inl less ↦ let l = h b less in absurd (omega (arith, l)) | inr more ↦ more ]

-- where no column is touched there are as many
count-alike : (t : Touched) (M N : Program) → column_touched t ≡ None → AreAlikeBut t M N → length M.cols ≡ length N.cols
count-alike Nothing M N none h = let one = below-same (length M.cols) (length N.cols) (λ j below. (h.columns j refl).there.0 below) in let two = below-same (length N.cols) (length M.cols) (λ j below. (h.columns j refl).there.1 below) in omega (arith, one, two)
count-alike (OneRow row) M N none h = let one = below-same (length M.cols) (length N.cols) (λ j below. (h.columns j refl).there.0 below) in let two = below-same (length N.cols) (length M.cols) (λ j below. (h.columns j refl).there.1 below) in omega (arith, one, two)
count-alike (RowSides row) M N none h = let one = below-same (length M.cols) (length N.cols) (λ j below. (h.columns j refl).there.0 below) in let two = below-same (length N.cols) (length M.cols) (λ j below. (h.columns j refl).there.1 below) in omega (arith, one, two)
count-alike (OneCost col) M N none h = let one = below-same (length M.cols) (length N.cols) (λ j below. (h.columns j refl).there.0 below) in let two = below-same (length N.cols) (length M.cols) (λ j below. (h.columns j refl).there.1 below) in omega (arith, one, two)
count-alike (OneColumn col) M N none h = let f : Some col ≡ None = none in cc

-- ---- all terms

choice-same : (b : Bool) (n : ℕ) → (if b then n else n) ≡ n
choice-same true n = refl
choice-same false n = refl

module _ (t : Touched) (former : Former) (F : Formulation) (kept : LeafData) where
  abbrev left : Bool
  left = leaves_list t former.pool.now F.cuts kept.mult && leaves_list t former.pool.now F.cuts kept.farkas

  abbrev All : Type 0
  All = leaf_steps (Some t) former.pool.now F kept ≡ 2 * terms_of F

  -- a list names what is touched
  pub all-named : left ≡ false → All
  all-named none = ap (λ b. if b then touched_steps F t else 2 * terms_of F) none

  -- the columns are in other blocks
  pub all-moved : ¬ KeepsBlocks former.model.now F.model → AreAlikeBut t former.model.now F.model → All
  all-moved moved alike = by t refl
    where
      keeps : column_touched t ≡ None → KeepsBlocks former.model.now F.model
      keeps none = let same = count-alike t former.model.now F.model none alike in (omega (arith, same), ap (λ n. n / 64) same)

      by : (u : Touched) → t ≡ u → All
      by Nothing is = absurd (moved (keeps (ap column_touched is)))
      by (OneRow row) is = absurd (moved (keeps (ap column_touched is)))
      by (RowSides row) is = absurd (moved (keeps (ap column_touched is)))
      by (OneCost col) is = absurd (moved (keeps (ap column_touched is)))
      by (OneColumn col) is = ap (λ n. if left then n else 2 * terms_of F) (ap (touched_steps F) is) ∙ choice-same left (2 * terms_of F)

  -- all of a column is touched
  pub all-column : (col : ColId) → t ≡ OneColumn col → All
  all-column col is = ap (λ n. if left then n else 2 * terms_of F) (ap (touched_steps F) is) ∙ choice-same left (2 * terms_of F)

-- there is no such column in a model alike to one with as many
pub absent-cost : (col : ColId) (M N : Program) → AreAlikeBut (OneCost col) M N → ¬ ((col.0 < length M.cols) × (length M.cols ≡ length N.cols)) → IsAbsent (Some col) M N
absent-cost col M N alike none =
    let same = count-alike (OneCost col) M N refl alike in
    elim (cases_lt col.0 (length M.cols)) [ inl below ↦ absurd (none (below, same)) | inr past ↦ (past, omega (arith, past, same)) ]

-- the row of which another side is touched, in both models
row-by : (f : Former) (F : Formulation) (path : Path) (kept : LeafData) (i : ℕ) (o : Option Touched) → IsWayOf o f F path kept (FromSide i) → (i < length f.model.now.rows) × (i < length F.model.rows)
row-by f F path kept i None w = cc
row-by f F path kept i (Some t) w = let within = w.within in let rows = w.rows in (within, omega (arith, within, rows))

pub moved-row : (f : Former) (F : Formulation) (path : Path) (kept : LeafData) (i : ℕ) → IsWayAfter f F path kept (FromSide i) → (i < length f.model.now.rows) × (i < length F.model.rows)
moved-row f F path kept i w = row-by f F path kept i f.touched w

-- where there are no entries from before, nothing is moved
pub no-way : (o : Option Former) (F : Formulation) (path : Path) (kept : LeafData) (i : ℕ) → o ≡ None → IsWayAt o F path kept (FromSide i) → ⊥
no-way None F path kept i none w = cc
no-way (Some f) F path kept i none w = cc

-- a lawful model and a pool of cuts have few terms
pub few-terms : (F : Formulation) → IsLawful F.model → length F.cuts ≤ pool_limit → AreFewTerms F
few-terms F lawful few =
    let rows = few_rows F.model lawful in
    let columns = few_columns F.model lawful in
    omega (arith, few, rows, columns)

-- what stands where a list names what was touched
pub named-way : (t : Touched) (f : Former) (F : Formulation) (path : Path) (kept : LeafData) (w : Way) → IsNamedWay t f F kept w → IsWayBy t f F path kept w
named-way t f F path kept Spared h = absurd h
named-way t f F path kept (FromCost p) h = absurd h
named-way t f F path kept (FromSide i) h = h
named-way t f F path kept Anew h = λ alike. h

-- ---- one leaf

module _ (F : Formulation) (id : ℕ) (region path : Path) (same : SameBounds region path) (kept : LeafData) where
  abbrev leaf : LeafKept
  leaf = record { id = id; kept = kept }

  abbrev HeldBy : Former → Option Touched → Type 0
  HeldBy f o = IfSome o (λ t. IsAlikeFormer t f F × HasKept (former_formulation f) f.numbers.now path leaf)

  anew-by : (f : Former) (o : Option Touched) → IsWayOf o f F region kept Anew → HeldBy f o → leaf_steps o f.pool.now F kept ≡ 2 * terms_of F
  anew-by f None w h = refl
  anew-by f (Some t) w h = w h.0

  pub anew-steps : (former : Option Former) → IsWayAt former F region kept Anew → HoldsFormer former F path leaf → former_leaf_steps former F kept ≡ 2 * terms_of F
  anew-steps None w h = refl
  anew-steps (Some f) w h = anew-by f f.touched w h

  -- what is due
  due-by : (f : Former) (o : Option Touched) (p : ℕ) → IsWayOf o f F region kept (FromCost p) → IsDueBy o f F kept
  due-by f None p w = cc
  due-by f (Some t) p w = (p, w)

  pub due-way : (former : Option Former) (p : ℕ) → IsWayAt former F region kept (FromCost p) → IsDue former F kept
  due-way None p w = cc
  due-way (Some f) p w = due-by f f.touched p w

  -- what is copied
  spared-by : (f : Former) (o : Option Touched) (e : LeafEntry) → IsWayOf o f F region kept Spared → HeldBy f o → kept_entry f.numbers.now id ≡ Some e → IsLeafEntry F path kept e
  spared-by f None e w h is = cc
  spared-by f (Some t) e w h is =
      let own : h.1.0 ≡ e = some_same h.1.0 e (sym h.1.1.0 ∙ is) in
      let before = entry-same (former_formulation f) path region (other_way region path same) kept.mult kept.farkas e (subst (IsLeafEntry (former_formulation f) path kept) own h.1.1.1) in
      entry-same F region path same kept.mult kept.farkas e (entry-spared (former_formulation f) F region w.1 kept.mult kept.farkas (w.0 h.0) e before)

  pub spared-way : (former : Option Former) (e : LeafEntry) → IsWayAt former F region kept Spared → HoldsFormer former F path leaf → former_kept former id ≡ Some e → IsLeafEntry F path kept e
  spared-way None e w h is = cc
  spared-way (Some f) e w h is = spared-by f f.touched e w h is

  -- what is moved
  module _ (i : ℕ) (few : AreFewTerms F) (e new : LeafEntry) where
    moved-by : (f : Former) (o : Option Touched) → IsWayOf o f F region kept (FromSide i) → HeldBy f o → kept_entry f.numbers.now id ≡ Some e → MovesSide i f.model.now F.model kept.mult e new
        → IsLeafEntry F path kept new × (length e.lag.totals.kept + 1 ≤ leaf_steps o f.pool.now F kept)
    moved-by f None w h is moves = cc
    moved-by f (Some t) w h is moves =
        let row : RowId = record { 0 = i } in
        let own : h.1.0 ≡ e = some_same h.1.0 e (sym h.1.1.0 ∙ is) in
        let before : IsLeafEntry (former_formulation f) path kept e = subst (IsLeafEntry (former_formulation f) path kept) own h.1.1.1 in
        let alike : AreAlikeBut (RowSides row) f.model.now F.model = subst (λ (u : Touched). AreAlikeBut u f.model.now F.model) w.side h.0.model in
        let farkas : leaves_list (RowSides row) f.pool.now F.cuts kept.farkas ≡ true = subst (λ (u : Touched). leaves_list u f.pool.now F.cuts kept.farkas ≡ true) w.side w.farkas in
        let steps = moved-few row (former_formulation f) F path kept.mult kept.farkas alike h.0.cuts w.mult farkas w.within w.rows w.cuts w.columns few e before w.some in (
          entry-moved row (former_formulation f) F path kept.mult kept.farkas alike h.0.cuts w.mult farkas w.within w.rows w.cuts w.columns few e before new moves,
          subst (λ n. length e.lag.totals.kept + 1 ≤ n) (sym (all-named t f F kept w.named)) steps,
        )

    pub moved-way : (f : Former) → IsWayAfter f F region kept (FromSide i) → HoldsFormer (Some f) F path leaf → kept_entry f.numbers.now id ≡ Some e → MovesSide i f.model.now F.model kept.mult e new
        → IsLeafEntry F path kept new × (length e.lag.totals.kept + 1 ≤ former_leaf_steps (Some f) F kept)
    moved-way f w h is moves = moved-by f f.touched w h is moves

  -- in which all terms may be added too
  moved_steps-by : (f : Former) (o : Option Touched) (i : ℕ) → IsWayOf o f F region kept (FromSide i) → leaf_steps o f.pool.now F kept ≡ 2 * terms_of F
  moved_steps-by f None i w = cc
  moved_steps-by f (Some t) i w = all-named t f F kept w.named

  pub moved-steps : (f : Former) (i : ℕ) → IsWayAfter f F region kept (FromSide i) → former_leaf_steps (Some f) F kept ≡ 2 * terms_of F
  moved-steps f i w = moved_steps-by f f.touched i w

  -- it is there
  none-by : (f : Former) (o : Option Touched) → IsWayOf o f F region kept Spared → HeldBy f o → kept_entry f.numbers.now id ≡ None → ⊥
  none-by f None w h is = cc
  none-by f (Some t) w h is = let f = sym is ∙ h.1.1.0 in cc

  pub spared-there : (former : Option Former) → IsWayAt former F region kept Spared → HoldsFormer former F path leaf → former_kept former id ≡ None → ⊥
  spared-there None w h is = cc
  spared-there (Some f) w h is = none-by f f.touched w h is
