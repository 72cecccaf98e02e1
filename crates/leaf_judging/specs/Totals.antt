-- The totals that are kept of a leaf beside its number, and how many terms are added to them after an edit.
--     AreListTotals F path mult costed t     what is kept of one list's totals, with room for all
--     IsLeafEntry F path kept e              a leaf's number, and the totals of its two lists
--     leaf_steps t cuts F kept               how many terms may be added in a leaf after an edit that touched so much
use Rattle.std.specs.Prelude.{◌≢◌, ◌≤◌, ◌+◌, ◌-◌, ◌*◌, ℕ, Bool, true, false, ◌&&◌, if◌then◌else◌, List, [], ◌∷◌, length, Option, Some, None}
use Rattle.lp_model.specs.Regions.{Path, IsEmptyRegion}
use Rattle.lp_model.specs.Formulations.{Formulation}
use Rattle.lp_model.specs.declared.types.CutRow.{CutRow}
use Rattle.leaf_dual.specs.Dual.{Multipliers}
use Rattle.leaf_totals.specs.declared.keeping.LeafTotals.{LeafTotals}
use Rattle.leaf_totals.specs.Keeping.{list_question, kept_most, AreComplete}
use Rattle.leaf_totals.specs.Likeness.{CanGoOn}
use Rattle.branch_tree.specs.declared.node.LeafData.{LeafData}
use Rattle.branch_tree.specs.declared.node.RegionLeaf.{RegionLeaf}
use Rattle.spared_leaves.specs.declared.touched.Touched.{Touched}
use Rattle.spared_leaves.specs.declared.touched.Touched.TheVariants.{Nothing, OneRow, RowSides, OneCost, OneColumn}
use Rattle.spared_leaves.specs.Touched.{leaves_list}
use Rattle.leaf_judging.specs.declared.closing.LeafNumber.TheVariants.{Empty}
use Rattle.leaf_judging.specs.declared.entry.LeafEntry.{LeafEntry}
use Rattle.leaf_judging.specs.Closing.{IsNumber}

-- those of a list with the model's costs, or with none: each is true, they can be gone on with, and there is room for all
pub record AreListTotals (F : Formulation) (path : Path) (mult : Multipliers) (costed : Bool) (t : LeafTotals) : Type 0 where
  pub ready : CanGoOn (list_question F path mult costed) t
  pub room : kept_most (list_question F path mult costed) ≤ t.totals.room

-- those of Farkas multipliers, if there are any. They are complete where no column's bounds cross: else nothing is asked of them
abbrev pub AreFarkasTotals : Formulation → Path → Multipliers → LeafTotals → Type 0
AreFarkasTotals F path [] t = Unit {0}
AreFarkasTotals F path (m ∷ ms) t = AreListTotals F path (m ∷ ms) false t × ((¬ IsEmptyRegion F.model path) → AreComplete (list_question F path (m ∷ ms) false) t)

-- a region's number under two lists, and their totals. Those of the multipliers are complete where it is not empty: an empty one keeps what is true of it
pub record IsEntryOf (F : Formulation) (path : Path) (mult farkas : Multipliers) (e : LeafEntry) : Type 0 where
  pub number : IsNumber F path mult farkas e.number
  pub lag : AreListTotals F path mult true e.lag
  pub refuting : AreFarkasTotals F path farkas e.farkas
  pub complete : e.number ≢ Empty → AreComplete (list_question F path mult true) e.lag

abbrev pub IsLeafEntry : Formulation → Path → LeafData → LeafEntry → Type 0
IsLeafEntry F path kept e = IsEntryOf F path kept.mult kept.farkas e

-- ---- steps

-- the terms of a number: rows, cuts, columns
abbrev pub terms_of : Formulation → ℕ
terms_of F = length F.model.rows + (length F.cuts + length F.model.cols)

-- in a leaf neither list of which names what was touched
abbrev pub touched_steps : Formulation → Touched → ℕ
touched_steps F Nothing = 0
touched_steps F (OneRow row) = 0
touched_steps F (RowSides row) = 0
touched_steps F (OneCost col) = length F.model.cols - col.0 + 63
touched_steps F (OneColumn col) = 2 * terms_of F

-- in a leaf with these lists, where the cuts were these before
abbrev pub leaf_steps : Option Touched → List CutRow → Formulation → LeafData → ℕ
leaf_steps None cuts F kept = 2 * terms_of F
leaf_steps (Some t) cuts F kept = if leaves_list t cuts F.cuts kept.mult && leaves_list t cuts F.cuts kept.farkas then touched_steps F t else 2 * terms_of F

-- in these leaves
abbrev pub leaves_steps : Option Touched → List CutRow → Formulation → List RegionLeaf → ℕ
leaves_steps t cuts F [] = 0
leaves_steps t cuts F (l ∷ leaves) = leaf_steps t cuts F l.kept + leaves_steps t cuts F leaves
