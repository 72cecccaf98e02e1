-- What contracts of private functions alone cite, beside specs/Former: what of a leaf's entry stands after an edit.
use Rattle.std.specs.Prelude.{◌≡◌, ◌≤◌, ◌<◌, ◌*◌, ◌/◌, ◌&&◌, ℕ, true, false, length, Option, Some, None}
use Rattle.lp_model.specs.Program.{Program}
use Rattle.lp_model.specs.Regions.{Path}
use Rattle.lp_model.specs.Formulations.{Formulation}
use Rattle.branch_tree.specs.declared.node.LeafData.{LeafData}
use Rattle.spared_leaves.specs.declared.touched.Touched.{Touched}
use Rattle.spared_leaves.specs.declared.touched.Touched.TheVariants.{Nothing, RowSides, OneCost}
use Rattle.spared_leaves.specs.Touched.{leaves_list}
use Rattle.spared_leaves.specs.Spared.{IsSpared}
use Rattle.leaf_judging.specs.declared.former.Former.{Former}
use Rattle.leaf_judging.specs.declared.former.Way.{Way}
use Rattle.leaf_judging.specs.declared.former.Way.TheVariants.{Spared, FromCost, FromSide, Anew}
use Rattle.leaf_judging.specs.Totals.{terms_of, leaf_steps}
use Rattle.leaf_judging.specs.Former.{former_formulation, IsAlikeFormer}

-- N has no column less than M, and no further block of 64
abbrev pub KeepsBlocks : Program → Program → Type 0
KeepsBlocks M N = (length M.cols ≤ length N.cols) × (length M.cols / 64 ≡ length N.cols / 64)

-- the cost of the column at a place was touched, and neither list names what was
pub record IsFromCost (t : Touched) (former : Former) (F : Formulation) (kept : LeafData) (p : ℕ) : Type 0 where
  pub cost : t ≡ OneCost (record { 0 = p })
  pub mult : leaves_list t former.pool.now F.cuts kept.mult ≡ true
  pub farkas : leaves_list t former.pool.now F.cuts kept.farkas ≡ true
  pub within : p < length former.model.now.cols
  pub count : length former.model.now.cols ≡ length F.model.cols

-- the sides of the row at a place were touched, which the list of multipliers names and that of Farkas multipliers doesn't, no cut that
-- they name turned, and there are as many rows, cuts and columns, and a column
pub record IsFromSide (t : Touched) (former : Former) (F : Formulation) (kept : LeafData) (i : ℕ) : Type 0 where
  pub side : t ≡ RowSides (record { 0 = i })
  pub named : (leaves_list t former.pool.now F.cuts kept.mult && leaves_list t former.pool.now F.cuts kept.farkas) ≡ false
  pub mult : leaves_list Nothing former.pool.now F.cuts kept.mult ≡ true
  pub farkas : leaves_list t former.pool.now F.cuts kept.farkas ≡ true
  pub within : i < length former.model.now.rows
  pub rows : length former.model.now.rows ≡ length F.model.rows
  pub cuts : length former.pool.now ≡ length F.cuts
  pub columns : length former.model.now.cols ≡ length F.model.cols
  pub some : 0 < length F.model.cols

-- where a list names what was touched
abbrev pub IsNamedWay : Touched → Former → Formulation → LeafData → Way → Type 0
IsNamedWay t former F kept Spared = ⊥
IsNamedWay t former F kept (FromCost p) = ⊥
IsNamedWay t former F kept (FromSide i) = IsFromSide t former F kept i
IsNamedWay t former F kept Anew = leaf_steps (Some t) former.pool.now F kept ≡ 2 * terms_of F

abbrev pub IsWayBy : Touched → Former → Formulation → Path → LeafData → Way → Type 0
IsWayBy t former F path kept Spared = (IsAlikeFormer t former F → IsSpared (former_formulation former) F path kept.mult kept.farkas) × KeepsBlocks former.model.now F.model
IsWayBy t former F path kept (FromCost p) = IsFromCost t former F kept p
IsWayBy t former F path kept (FromSide i) = IsFromSide t former F kept i
IsWayBy t former F path kept Anew = IsAlikeFormer t former F → leaf_steps (Some t) former.pool.now F kept ≡ 2 * terms_of F

abbrev pub IsWayOf : Option Touched → Former → Formulation → Path → LeafData → Way → Type 0
IsWayOf None former F path kept way = way ≡ Anew
IsWayOf (Some t) former F path kept way = IsWayBy t former F path kept way

abbrev pub IsWayAfter : Former → Formulation → Path → LeafData → Way → Type 0
IsWayAfter former F path kept way = IsWayOf former.touched former F path kept way
