-- What contracts of private functions alone cite, beside specs/Former: what a walk over leaves makes of their entries, and which of
-- them are due after it.
use Rattle.std.specs.Prelude.{◌≡◌, ◌⊎◌, ◌≤◌, ◌+◌, ℕ, Bool, true, false, nat_eq, ◌||◌, List, [], ◌∷◌, ◌++◌, All, Option, Some, None}
use Rattle.lp_model.specs.Regions.{Path, AreNarrow}
use Rattle.lp_model.specs.Formulations.{Formulation, formulation}
use Rattle.tight_regions.specs.SameBounds.{SameBounds}
use Rattle.branch_tree.specs.Tree.{EachLeaf}
use Rattle.branch_tree.specs.Plain.{LeafKept, Plain}
use Rattle.branch_tree.specs.declared.node.LeafData.{LeafData}
use Rattle.branch_tree.specs.declared.node.RegionLeaf.{RegionLeaf}
use Rattle.spared_leaves.specs.declared.touched.Touched.{Touched}
use Rattle.spared_leaves.specs.declared.touched.Touched.TheVariants.{Nothing, OneRow, RowSides, OneCost, OneColumn}
use Rattle.leaf_judging.specs.declared.entry.LeafEntry.{LeafEntry}
use Rattle.leaf_judging.specs.declared.due.DueLeaf.{DueLeaf}
use Rattle.leaf_judging.specs.declared.former.Former.{Former}
use Rattle.leaf_judging.specs.declared.former.Way.{Way}
use Rattle.leaf_judging.specs.declared.former.Way.TheVariants.{Anew}
use Rattle.leaf_judging.specs.declared.numbers.LeafNumbers.{LeafNumbers}
use Rattle.leaf_judging.specs.declared.numbering.Numbering.{Numbering}
use Rattle.leaf_judging.specs.Totals.{IsLeafEntry, touched_steps}
use Rattle.leaf_judging.specs.Numbers.{kept_entry, PutsEntry, HasKept}
use Rattle.leaf_judging.specs.Former.{HoldsFormer, former_leaf_steps}
use Rattle.leaf_judging.specs.private.Ways.{IsFromCost, IsWayAfter}

-- ---- what is due

-- the cost of a column was touched, and neither list names what was
abbrev pub IsDueBy : Option Touched → Former → Formulation → LeafData → Type 0
IsDueBy None former F kept = ⊥
IsDueBy (Some t) former F kept = (p : ℕ) × IsFromCost t former F kept p

abbrev pub IsDue : Option Former → Formulation → LeafData → Type 0
IsDue None F kept = ⊥
IsDue (Some former) F kept = IsDueBy former.touched former F kept

-- how many terms may be added then
abbrev pub due_steps_by : Option Touched → Formulation → ℕ
due_steps_by None F = 0
due_steps_by (Some t) F = touched_steps F t

abbrev pub due_steps : Option Former → Formulation → ℕ
due_steps None F = 0
due_steps (Some former) F = due_steps_by former.touched F

-- for so many leaves
abbrev pub dues : ℕ → List DueLeaf → ℕ
dues steps [] = 0
dues steps (d ∷ ds) = steps + dues steps ds

abbrev pub is_due_id : ℕ → List DueLeaf → Bool
is_due_id id [] = false
is_due_id id (d ∷ ds) = nat_eq d.id id || is_due_id id ds

-- of the leaf that is put down the bounds of the path are those of the changes beside its id
abbrev pub IsRegionOf : Path → ℕ → DueLeaf → Type 0
IsRegionOf path id d = id ≡ d.id → AreNarrow d.region × SameBounds d.region path

-- the leaf is due where its id is among those that are, and else its entry is kept
abbrev pub StandsBy : Bool → Option Former → Formulation → LeafNumbers → Path → LeafKept → Type 0
StandsBy true former F numbers path l = IsDue former F l.kept
StandsBy false former F numbers path l = HasKept F numbers path l

abbrev pub IsStanding : Option Former → Formulation → LeafNumbers → List DueLeaf → Path → LeafKept → Type 0
IsStanding former F numbers due path l = StandsBy (is_due_id l.id due) former F numbers path l × All (IsRegionOf path l.id) due

abbrev pub AreBut : Option Former → Formulation → LeafNumbers → List DueLeaf → Plain → Type 0
AreBut former F numbers due t = EachLeaf (IsStanding former F numbers due) [] t

-- ---- one leaf of a walk

abbrev pub former_kept : Option Former → ℕ → Option LeafEntry
former_kept None id = None
former_kept (Some former) id = kept_entry former.numbers.now id

abbrev pub IsWayAt : Option Former → Formulation → Path → LeafData → Way → Type 0
IsWayAt None F path kept way = way ≡ Anew
IsWayAt (Some former) F path kept way = IsWayAfter former F path kept way

module _ {L : Type 0} where
  abbrev pub Holds : Numbering L → RegionLeaf → Type 0
  Holds n l = HoldsFormer n.former.now (formulation n.model.now n.pool.now) l.region (record { id = l.id; kept = l.kept })

  -- its entry is put down, where the former one, if there are any, is what the leaf had
  pub record PutsLeaf (old : Numbering L) (l : RegionLeaf) (new : Numbering L) : Type 0 where
    pub entry : LeafEntry
    pub is_entry : Holds old l → IsLeafEntry (formulation old.model.now old.pool.now) l.region l.kept entry
    pub puts : PutsEntry old.out.now.numbers l.id entry new.out.now.numbers
    pub due : new.out.now.due.items ≡ old.out.now.due.items
    pub takes : Holds old l → new.steps.now ≤ old.steps.now + former_leaf_steps old.former.now (formulation old.model.now old.pool.now) l.kept

  -- it is left, and its id and region are put down
  pub record LeavesLeaf (old : Numbering L) (l : RegionLeaf) (new : Numbering L) : Type 0 where
    pub leaf : DueLeaf
    pub id : leaf.id ≡ l.id
    pub narrow : AreNarrow leaf.region
    pub bounds : SameBounds leaf.region l.region
    pub is_due : IsDue old.former.now (formulation old.model.now old.pool.now) l.kept
    pub numbers : new.out.now.numbers ≡ old.out.now.numbers
    pub due : new.out.now.due.items ≡ old.out.now.due.items ++ leaf ∷ []
    pub takes : new.steps.now ≡ old.steps.now

  pub record NumbersLeaf (old : Numbering L) (l : RegionLeaf) (new : Numbering L) : Type 0 where
    pub same : new.model.now ≡ old.model.now
    pub same_cuts : new.pool.now ≡ old.pool.now
    pub same_former : new.former.now ≡ old.former.now
    pub same_out : new.out.ghost_name ≡ old.out.ghost_name
    pub same_steps : new.steps.ghost_name ≡ old.steps.ghost_name
    pub rises : old.steps.now ≤ new.steps.now
    pub done : PutsLeaf old l new ⊎ LeavesLeaf old l new

-- ---- another cost

abbrev pub IsNoCost : Option Touched → Type 0
IsNoCost None = Unit {0}
IsNoCost (Some Nothing) = Unit {0}
IsNoCost (Some (OneRow row)) = Unit {0}
IsNoCost (Some (RowSides row)) = Unit {0}
IsNoCost (Some (OneCost col)) = ⊥
IsNoCost (Some (OneColumn col)) = Unit {0}

-- the leaf of the tree that was put down so is due
abbrev pub IsDueAt : Option Former → Formulation → DueLeaf → Path → LeafKept → Type 0
IsDueAt former F d path l = l.id ≡ d.id → IsDue former F l.kept × (AreNarrow d.region × SameBounds d.region path)

-- of that leaf, if there is one, the entry is kept: it is due no more
abbrev pub IsFinishedLeaf : Option Former → Formulation → Plain → DueLeaf → LeafNumbers → LeafNumbers → Type 0
IsFinishedLeaf former F t d old new = (rest : List DueLeaf) → AreBut former F old (d ∷ rest) t → AreBut former F new rest t
