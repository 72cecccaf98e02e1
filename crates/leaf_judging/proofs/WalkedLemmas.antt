-- A walk that puts down the entries of leaves, or their ids and regions where those are due.
use Rattle.std.specs.Prelude.{◌≡◌, ◌≢◌, ℕ, ◌+◌, ◌*◌, ◌<◌, ◌≤◌, Bool, true, false, if◌then◌else◌, nat_eq, ◌||◌, ◌&&◌, List, [], ◌∷◌, ◌++◌, All, Option, Some, None}
use Rattle.std.proofs.Common.{refl, sym, ap, subst, ◌∙◌, arith, inl, inr, eq-eqb, true≢false}
use Rattle.std.proofs.lemmas.Bool.{ne_eqb}
use Rattle.std.proofs.lemmas.List.Elements.{All-nil, All-cons, All-same, All-push, All-map, All-head, All-tail}
use Rattle.lp_model.specs.Program.{Program}
use Rattle.lp_model.specs.Regions.{Path, AreNarrow}
use Rattle.lp_model.specs.Formulations.{Formulation, formulation}
use Rattle.lp_model.specs.declared.types.CutRow.{CutRow}
use Rattle.tight_regions.specs.SameBounds.{SameBounds}
use Rattle.branch_tree.specs.Tree.{Leaf, Split, left_path, right_path, EachLeaf, leaves}
use Rattle.branch_tree.specs.Plain.{LeafKept, Plain, leaves_with}
use Rattle.branch_tree.specs.Leaves.{region_leaf, region_leaves}
use Rattle.branch_tree.specs.Visits.{Visits}
use Rattle.branch_tree.specs.declared.node.LeafData.{LeafData}
use Rattle.branch_tree.specs.declared.node.RegionLeaf.{RegionLeaf}
use Rattle.branch_tree.proofs.TreeLemmas.{each_leaf-leaves}
use Rattle.branch_tree.proofs.VisitLemmas.{visits_both}
use Rattle.spared_leaves.specs.declared.touched.Touched.{Touched}
use Rattle.leaf_judging.specs.declared.due.DueLeaf.{DueLeaf}
use Rattle.leaf_judging.specs.declared.former.Former.{Former}
use Rattle.leaf_judging.specs.declared.numbers.LeafNumbers.{LeafNumbers}
use Rattle.leaf_judging.specs.declared.numbering.Numbering.{Numbering}
use Rattle.leaf_judging.specs.Totals.{IsLeafEntry, terms_of, touched_steps, leaf_steps}
use Rattle.leaf_judging.specs.Numbers.{kept_entry}
use Rattle.leaf_judging.specs.Former.{HoldsFormer, AreFormer, former_leaf_steps, former_steps}
use Rattle.leaf_judging.specs.private.Walked.{IsDue, IsDueBy, due_steps, due_steps_by, dues, is_due_id, IsRegionOf, StandsBy, IsStanding, AreBut, NumbersLeaf}
use Rattle.leaf_judging.proofs.NumberLemmas.{has-own, is-other, former-each}

-- ---- leaves that are due

pub in-last : (d : DueLeaf) (id : ℕ) (ds : List DueLeaf) → d.id ≡ id → is_due_id id (ds ++ d ∷ []) ≡ true
in-last d id [] same = ap (λ b. b || false) (eq-eqb d.id id same)
in-last d id (e ∷ ds) same = ap (λ b. nat_eq e.id id || b) (in-last d id ds same) ∙ any-true (nat_eq e.id id)
  where
    any-true : (b : Bool) → (b || true) ≡ true
    any-true true = refl
    any-true false = refl

pub in-other : (other : ℕ) (d : DueLeaf) (ds : List DueLeaf) → other ≢ d.id → is_due_id other (ds ++ d ∷ []) ≡ is_due_id other ds
in-other other d [] ne = ap (λ b. b || false) (ne_eqb d.id other (λ e. ne (sym e)))
in-other other d (e ∷ ds) ne = ap (λ b. nat_eq e.id other || b) (in-other other d ds ne)

dues-last : (steps : ℕ) (d : DueLeaf) (ds : List DueLeaf) → dues steps (ds ++ d ∷ []) ≡ dues steps ds + steps
dues-last steps d [] = omega arith
dues-last steps d (e ∷ ds) = let rest = dues-last steps d ds in omega (arith, rest)

-- where none has the id, each that has it is as one likes
none-first : (P : DueLeaf → Type 0) (id : ℕ) (d : DueLeaf) (ds : List DueLeaf) (b : Bool) → nat_eq d.id id ≡ b → (nat_eq d.id id || is_due_id id ds) ≡ false → (is_due_id id ds ≡ false → All (λ d. id ≡ d.id → P d) ds) → All (λ d. id ≡ d.id → P d) (d ∷ ds)
none-first P id d ds true e none rest = absurd (true≢false (sym (ap (λ c. c || is_due_id id ds) e) ∙ none))
none-first P id d ds false e none rest =
    All-cons (λ d. id ≡ d.id → P d) d ds (λ same. absurd (true≢false (sym (eq-eqb d.id id (sym same)) ∙ e))) (rest (sym (ap (λ c. c || is_due_id id ds) e) ∙ none))

none-has : (P : DueLeaf → Type 0) (id : ℕ) (ds : List DueLeaf) → is_due_id id ds ≡ false → All (λ d. id ≡ d.id → P d) ds
none-has P id [] none = All-nil (λ d. id ≡ d.id → P d)
none-has P id (d ∷ ds) none = none-first P id d ds (nat_eq d.id id) refl none (none-has P id ds)

-- of the leaves that have the id, `more` has none beside those of `due`
pub record IsOtherDue (i : ℕ) (due more : List DueLeaf) : Type 0 where
  pub is_in : is_due_id i more ≡ is_due_id i due
  pub regions : (path : Path) → All (IsRegionOf path i) due → All (IsRegionOf path i) more

other-same : (i : ℕ) (due more : List DueLeaf) → more ≡ due → IsOtherDue i due more
other-same i due more same = record { is_in = ap (is_due_id i) same; regions = λ path all. All-same (IsRegionOf path i) more due same all }

other-last : (i : ℕ) (due more : List DueLeaf) (d : DueLeaf) → more ≡ due ++ d ∷ [] → i ≢ d.id → IsOtherDue i due more
other-last i due more d is ne = record {
  is_in = ap (is_due_id i) is ∙ in-other i d due ne;
  regions = λ path all. All-same (IsRegionOf path i) more (due ++ d ∷ []) is (All-push (IsRegionOf path i) due d all (λ same. absurd (ne same)));
}

other-both : (i : ℕ) (due mid more : List DueLeaf) → IsOtherDue i due mid → IsOtherDue i mid more → IsOtherDue i due more
other-both i due mid more first second = record { is_in = second.is_in ∙ first.is_in; regions = λ path all. second.regions path (first.regions path all) }

-- ---- steps

all-left : (a b : Bool) (n m : ℕ) → a ≡ true → b ≡ true → (if a && b then n else m) ≡ n
all-left a b n m is also = (λ i. if is i && also i then n else m)

due-by : (o : Option Touched) (former : Former) (F : Formulation) (kept : LeafData) → IsDueBy o former F kept → leaf_steps o former.pool.now F kept ≡ due_steps_by o F
due-by None former F kept h = absurd h
due-by (Some t) former F kept (p, is) = (λ i. if is.mult i && is.farkas i then touched_steps F t else 2 * terms_of F)

-- a leaf that is due may take as many as are set down for it
due-leaf : (former : Option Former) (F : Formulation) (kept : LeafData) → IsDue former F kept → former_leaf_steps former F kept ≡ due_steps former F
due-leaf None F kept h = absurd h
due-leaf (Some former) F kept h = due-by former.touched former F kept h

steps-next : (former : Option Former) (F : Formulation) (l : RegionLeaf) (ls : List RegionLeaf) → former_steps former F (l ∷ ls) ≡ former_leaf_steps former F l.kept + former_steps former F ls
steps-next None F l ls = refl
steps-next (Some former) F l ls = refl

steps-none : (former : Option Former) (F : Formulation) → former_steps former F [] ≡ 0
steps-none None F = refl
steps-none (Some former) F = refl

-- ---- what stands

stands-by : (b : Bool) (former : Option Former) (F : Formulation) (old new : LeafNumbers) (path : Path) (l : LeafKept) → kept_entry new l.id ≡ kept_entry old l.id → StandsBy b former F old path l → StandsBy b former F new path l
stands-by true former F old new path l same h = h
stands-by false former F old new path l same h = (h.0, (same ∙ h.1.0, h.1.1))

pub stands-same : (former : Option Former) (F : Formulation) (old new : LeafNumbers) (due more : List DueLeaf) (path : Path) (l : LeafKept) → kept_entry new l.id ≡ kept_entry old l.id → IsOtherDue l.id due more → IsStanding former F old due path l → IsStanding former F new more path l
stands-same former F old new due more path l same other h = (
  subst (λ b. StandsBy b former F new path l) (sym other.is_in) (stands-by (is_due_id l.id due) former F old new path l same h.0),
  other.regions path h.1,
)

each-stands : (former : Option Former) (F : Formulation) (old new : LeafNumbers) (due more : List DueLeaf) (path : Path) (t : Plain) → ((i : ℕ) → 0 < leaves_with i t → (kept_entry new i ≡ kept_entry old i) × IsOtherDue i due more)
    → EachLeaf (IsStanding former F old due) path t → EachLeaf (IsStanding former F new more) path t
each-stands former F old new due more path (Leaf l) same h = let s = same l.id (has-own l) in stands-same former F old new due more path l s.0 s.1 h
each-stands former F old new due more path (Split kept j v left right) same h = (
  each-stands former F old new due more (left_path path j v) left (λ i some. same i (omega (arith, some))) h.0,
  each-stands former F old new due more (right_path path j v) right (λ i some. same i (omega (arith, some))) h.1,
)

-- ---- the walk

module _ (M : Program) (cuts : List CutRow) (former : Option Former) where
  abbrev F : Formulation
  F = formulation M cuts

  abbrev HeldAt : RegionLeaf → Type 0
  HeldAt l = HoldsFormer former F l.region (record { id = l.id; kept = l.kept })

module _ (M : Program) (cuts : List CutRow) (former : Option Former) {L : Type 0} where
  abbrev pub AreOf : Numbering L → Type 0
  AreOf n = (n.model.now ≡ M) × ((n.pool.now ≡ cuts) × (n.former.now ≡ former))

  still : (old new : Numbering L) (l : RegionLeaf) → AreOf old → NumbersLeaf old l new → AreOf new
  still old new l is step = (step.same ∙ is.0, (step.same_cuts ∙ is.1.0, step.same_former ∙ is.1.1))

  -- ---- one leaf

  module _ (old new : Numbering L) (l : RegionLeaf) (is : AreOf old) (held : (HeldAt M cuts former) l) (step : NumbersLeaf old l new) where
    holds : HoldsFormer old.former.now (formulation old.model.now old.pool.now) l.region (record { id = l.id; kept = l.kept })
    holds = subst (λ P. P) (λ i. HoldsFormer (sym is.1.1 i) (formulation (sym is.0 i) (sym is.1.0 i)) l.region (record { id = l.id; kept = l.kept })) held

    leaf-stands : is_due_id l.id old.out.now.due.items ≡ false → IsStanding former (formulation M cuts) new.out.now.numbers new.out.now.due.items l.region (record { id = l.id; kept = l.kept })
    leaf-stands fresh = elim step.done [
      | inl puts ↦
          let entry_is : IsLeafEntry (formulation M cuts) l.region l.kept puts.entry = subst (λ P. P) (λ i. IsLeafEntry (formulation (is.0 i) (is.1.0 i)) l.region l.kept puts.entry) (puts.is_entry holds) in (
            subst (λ b. StandsBy b former (formulation M cuts) new.out.now.numbers l.region (record { id = l.id; kept = l.kept })) (sym (ap (is_due_id l.id) puts.due ∙ fresh)) (puts.entry, (puts.puts.0, entry_is)),
            All-same (IsRegionOf l.region l.id) new.out.now.due.items old.out.now.due.items puts.due none,
          )
      | inr left ↦
          let due : IsDue former (formulation M cuts) l.kept = subst (λ P. P) (λ i. IsDue (is.1.1 i) (formulation (is.0 i) (is.1.0 i)) l.kept) left.is_due in (
            subst (λ b. StandsBy b former (formulation M cuts) new.out.now.numbers l.region (record { id = l.id; kept = l.kept })) (sym (ap (is_due_id l.id) left.due ∙ in-last left.leaf l.id old.out.now.due.items left.id)) due,
            All-same (IsRegionOf l.region l.id) new.out.now.due.items (old.out.now.due.items ++ left.leaf ∷ []) left.due
                (All-push (IsRegionOf l.region l.id) old.out.now.due.items left.leaf none (λ same. (left.narrow, left.bounds))),
          )
    ]
      where
        none : All (IsRegionOf l.region l.id) old.out.now.due.items
        none = none-has (λ d. AreNarrow d.region × SameBounds d.region l.region) l.id old.out.now.due.items fresh

    leaf-others : (i : ℕ) → i ≢ l.id → (kept_entry new.out.now.numbers i ≡ kept_entry old.out.now.numbers i) × IsOtherDue i old.out.now.due.items new.out.now.due.items
    leaf-others i ne = elim step.done [
      | inl puts ↦ (puts.puts.1 i ne, other-same i old.out.now.due.items new.out.now.due.items puts.due)
      | inr left ↦ (ap (λ (n : LeafNumbers). kept_entry n i) left.numbers, other-last i old.out.now.due.items new.out.now.due.items left.leaf left.due (λ e. ne (e ∙ left.id)))
    ]

    leaf-steps : new.steps.now + dues (due_steps former (formulation M cuts)) new.out.now.due.items ≤ old.steps.now + dues (due_steps former (formulation M cuts)) old.out.now.due.items + former_leaf_steps former (formulation M cuts) l.kept
    leaf-steps = elim step.done [
      | inl puts ↦
          let takes : new.steps.now ≤ old.steps.now + former_leaf_steps former (formulation M cuts) l.kept = subst (λ n. new.steps.now ≤ old.steps.now + n) (λ i. former_leaf_steps (is.1.1 i) (formulation (is.0 i) (is.1.0 i)) l.kept) (puts.takes holds) in
          let same = ap (dues (due_steps former (formulation M cuts))) puts.due in
          omega (arith, takes, same)
      | inr left ↦
          let due : IsDue former (formulation M cuts) l.kept = subst (λ P. P) (λ i. IsDue (is.1.1 i) (formulation (is.0 i) (is.1.0 i)) l.kept) left.is_due in
          let takes = left.takes in
          let own = due-leaf former (formulation M cuts) l.kept due in
          let more = ap (dues (due_steps former (formulation M cuts))) left.due ∙ dues-last (due_steps former (formulation M cuts)) left.leaf old.out.now.due.items in
          omega (arith, takes, own, more)
    ]

  -- ---- all leaves of a tree

  pub record IsWalked (path : Path) (t : Plain) (old new : Numbering L) : Type 0 where
    pub are : AreOf new
    pub each : EachLeaf (IsStanding former (formulation M cuts) new.out.now.numbers new.out.now.due.items) path t
    pub others : (i : ℕ) → leaves_with i t ≡ 0 → (kept_entry new.out.now.numbers i ≡ kept_entry old.out.now.numbers i) × IsOtherDue i old.out.now.due.items new.out.now.due.items

  walked : (path : Path) (t : Plain) (old new : Numbering L) → AreOf old → ((i : ℕ) → leaves_with i t ≤ 1) → ((i : ℕ) → 0 < leaves_with i t → is_due_id i old.out.now.due.items ≡ false) → EachLeaf (HoldsFormer former (formulation M cuts)) path t
      → Visits NumbersLeaf (region_leaves path t) old new → IsWalked path t old new
  walked path (Leaf l) old new is one fresh held walk =
      let step = walk.1.0 in
      subst (λ (x : Numbering L). IsWalked path (Leaf l) old x) (sym walk.1.1)
      (record {
        are = still old walk.0 (region_leaf (path, l)) is step;
        each = leaf-stands old walk.0 (region_leaf (path, l)) is held step (fresh l.id (has-own l));
        others = λ i none. leaf-others old walk.0 (region_leaf (path, l)) is held step i (is-other l i none);
      })
  walked path (Split kept j v left right) old new is one fresh held walk =
      let both = visits_both NumbersLeaf path kept j v left right old new walk in
      let mid = both.0 in
      let first = walked (left_path path j v) left old mid is (λ i. omega (arith, one i)) (λ i some. fresh i (omega (arith, some))) held.0 both.1.0 in
      let second = walked (right_path path j v) right mid new first.are (λ i. omega (arith, one i)) (λ i some. (first.others i (omega (arith, one i, some))).1.is_in ∙ fresh i (omega (arith, some))) held.1 both.1.1 in
      record {
        are = second.are;
        each = (each-stands former (formulation M cuts) mid.out.now.numbers new.out.now.numbers mid.out.now.due.items new.out.now.due.items (left_path path j v) left (λ i some. second.others i (omega (arith, one i, some))) first.each, second.each);
        others = λ i none.
            let one_part = first.others i (omega (arith, none)) in
            let two_part = second.others i (omega (arith, none)) in
            (two_part.0 ∙ one_part.0, other-both i old.out.now.due.items mid.out.now.due.items new.out.now.due.items one_part.1 two_part.1);
      }

  -- ---- their steps

  pub record TakesSteps (ls : List RegionLeaf) (old new : Numbering L) : Type 0 where
    pub name : new.steps.ghost_name ≡ old.steps.ghost_name
    pub name_out : new.out.ghost_name ≡ old.out.ghost_name
    pub rises : old.steps.now ≤ new.steps.now
    pub takes : new.steps.now + dues (due_steps former (formulation M cuts)) new.out.now.due.items ≤ old.steps.now + dues (due_steps former (formulation M cuts)) old.out.now.due.items + former_steps former (formulation M cuts) ls

  stepped : (ls : List RegionLeaf) (old new : Numbering L) → AreOf old → All (HeldAt M cuts former) ls → Visits NumbersLeaf ls old new → TakesSteps ls old new
  stepped [] old new is all walk =
      let none = steps-none former (formulation M cuts) in
      subst (λ (x : Numbering L). TakesSteps [] old x) (sym walk) (record { name = refl; name_out = refl; rises = omega arith; takes = omega (arith, none) })
  stepped (l ∷ ls) old new is all walk =
      let step = walk.1.0 in
      let rest = stepped ls walk.0 new (still old walk.0 l is step) (All-tail (HeldAt M cuts former) l ls all) walk.1.1 in
      let here = leaf-steps old walk.0 l is (All-head (HeldAt M cuts former) l ls all) step in
      let rises = step.rises in
      let later = rest.rises in
      let takes = rest.takes in
      let next = steps-next former (formulation M cuts) l ls in
      record { name = rest.name ∙ step.same_steps; name_out = rest.name_out ∙ step.same_out; rises = omega (arith, rises, later); takes = omega (arith, here, takes, next) }

  module _ (t : Plain) (old new : Numbering L) (is : AreOf old) (none : old.out.now.due.items ≡ []) (one : (i : ℕ) → leaves_with i t ≤ 1) (held : AreFormer former (formulation M cuts) t) (walk : Visits NumbersLeaf (region_leaves [] t) old new) where
    pub walked-but : AreBut former (formulation M cuts) new.out.now.numbers new.out.now.due.items t
    walked-but = (walked [] t old new is one (λ i some. ap (is_due_id i) none) (former-each former (formulation M cuts) t held) walk).each

    pub walked-steps : TakesSteps (region_leaves [] t) old new
    walked-steps = stepped (region_leaves [] t) old new is (All-map (HeldAt M cuts former) region_leaf (leaves [] t) (each_leaf-leaves (HoldsFormer former (formulation M cuts)) [] t (former-each former (formulation M cuts) t held))) walk
