-- Which leaves keep their numbers, and which cuts stand as they are, at a model with other numbers.
use Rattle.std.specs.Prelude.{◌≡◌, ◌⊎◌, true, [], ◌∷◌, ◌++◌, List, Some}
use Rattle.frac128.specs.Rational.{ℚ}
use Rattle.lp_model.specs.Program.{Program}
use Rattle.lp_model.specs.Regions.{Path}
use Rattle.lp_model.specs.Formulations.{formulation}
use Rattle.lp_model.specs.declared.types.ColId.{ColId}
use Rattle.lp_model.specs.declared.types.CutRow.{CutRow}
use Rattle.lp_model.specs.declared.types.Derivation.{Derivation}
use Rattle.lp_model.specs.declared.types.Var.{Var}
use Rattle.lp_model.specs.declared.types.Var.TheVariants.{Col, Row, Cut}
use Rattle.tight_regions.specs.SameBounds.{SameBounds}
use Rattle.cover_cuts.specs.Cuts.{IsCutOf}
use Rattle.leaf_dual.specs.Dual.{Multipliers}
use Rattle.branch_tree.specs.declared.node.LeafData.{LeafData}
use Rattle.branch_tree.specs.declared.node.RegionLeaf.{RegionLeaf}
use Rattle.spared_leaves.specs.declared.touched.Touched.TheVariants.{Nothing, OneCost}
use Rattle.spared_leaves.specs.Touched.{leaves_list}
use Rattle.spared_leaves.specs.Alike.{IsSameSides, AreAlikeBut, AreAlikeCuts}
use Rattle.spared_leaves.specs.Spared.{IsSpared}
use Rattle.leaf_judging.specs.declared.closing.LeafNumber.{LeafNumber}
use Rattle.leaf_judging.specs.declared.numbers.LeafNumbers.{LeafNumbers}
use Rattle.leaf_judging.specs.Closing.{IsNumber}
use Rattle.leaf_judging.specs.Numbers.{kept_number, AreNumbersOf}
use Rattle.sound_searches.specs.Sound.{PlainSearch, formulation_of}
use Rattle.dual_bounds.specs.declared.new_numbers.OtherNumbers.{OtherNumbers}
use Rattle.dual_bounds.specs.declared.new_numbers.OtherNumbers.TheVariants.{Sides, Costs}

-- ---- lists that name no row with other sides

-- the activity of no row, or of one with the same sides in both models
abbrev pub IsSameVariable : Program → Program → Var → Type 0
IsSameVariable M N (Col col) = Unit {0}
IsSameVariable M N (Row row) = IsSameSides M N row.0
IsSameVariable M N (Cut cut) = Unit {0}

abbrev pub NamesSameSides : Program → Program → Multipliers → Type 0
NamesSameSides M N [] = Unit {0}
NamesSameSides M N (m ∷ mult) = IsSameVariable M N m.0 × NamesSameSides M N mult

-- the list names no row with other sides at M, and no cut that counts in one of the lists of cuts alone
pub record IsSparedList (S : PlainSearch) (M : Program) (again : List CutRow) (mult : Multipliers) : Type 0 where
  pub rows : NamesSameSides S.model M mult
  pub cuts : leaves_list Nothing S.cuts again mult ≡ true

-- ---- leaves

-- one cost is given, and where no more differs the leaf is spared
abbrev pub HasQuietCost : PlainSearch → Program → List CutRow → List (ColId × ℚ) → Path → LeafData → Type 0
HasQuietCost S M again costs R kept =
    (col : ColId) × ((v : ℚ) × ((costs ≡ (col, v) ∷ []) × (AreAlikeBut (OneCost col) S.model M → AreAlikeCuts S.cuts again → IsSpared (formulation_of S) (formulation M again) R kept.mult kept.farkas)))

-- what is seen of a leaf with this region, where these numbers are given
abbrev pub IsSparedLeaf : OtherNumbers → PlainSearch → Program → List CutRow → Path → LeafData → Type 0
IsSparedLeaf (Sides sides) S M again R kept = IsSparedList S M again kept.mult × IsSparedList S M again kept.farkas
IsSparedLeaf (Costs costs) S M again R kept = HasQuietCost S M again costs R kept

-- the leaf is spared, and it is the number that the search keeps under its id, if it keeps one
pub record IsKeptNumber (S : PlainSearch) (M : Program) (again : List CutRow) (given : OtherNumbers) (l : RegionLeaf) (n : LeafNumber) : Type 0 where
  pub region : Path
  pub same : SameBounds region l.region
  pub spared : IsSparedLeaf given S M again region l.kept
  pub numbers : LeafNumbers
  pub numbers_are : AreNumbersOf (formulation_of S) S.tree.root numbers
  pub is : (kept : LeafNumber) → kept_number numbers l.id ≡ Some kept → n ≡ kept

-- the leaf's number at M with these cuts, or what the search keeps of a leaf that is spared
abbrev pub IsListedNumber : PlainSearch → Program → List CutRow → OtherNumbers → RegionLeaf → LeafNumber → Type 0
IsListedNumber S M again given l n = IsNumber (formulation M again) l.region l.kept.mult l.kept.farkas n ⊎ IsKeptNumber S M again given l n

-- ---- cuts

-- what the derivation reads stays
abbrev pub LeavesDerivation : OtherNumbers → Program → Program → Derivation → Type 0
LeavesDerivation (Sides sides) M N d = IsSameSides M N d.row.0
LeavesDerivation (Costs costs) M N d = Unit {0}

-- one cut more, of this one's derivation, which counts where it derives at M
abbrev pub AddsAgain : Program → CutRow → List CutRow → List CutRow → Type 0
AddsAgain M cut old new = (c : CutRow) × ((new ≡ old ++ c ∷ []) × (c.from ≡ cut.from) × IsCutOf M c)
