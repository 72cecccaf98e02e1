-- When two models with their cuts give a region the same answers under the same multipliers y of rows and z of cuts, with the
-- costs c in the one and d in the other: what an answer takes of them is the same.
use Rattle.std.specs.Prelude.{◌≡◌, ◌⊎◌, ◌↔◌, ℕ, ◌<◌, List, length, pos, Some}
use Rattle.frac128.specs.Rational.{ℚ, int}
use Rattle.lp_model.specs.Program.{Program, coefficient}
use Rattle.lp_model.specs.Regions.{Path, region_low, region_high}
use Rattle.lp_model.specs.Formulations.{Formulation, formulation, cut_coefficient, cut_high}
use Rattle.lp_model.specs.declared.types.CutRow.{CutRow}
use Rattle.leaf_dual.specs.Dual.{column_reduced_cost, column_side}
use Rattle.leaf_dual.specs.Answers.{EntriesFit}
use Rattle.spared_leaves.specs.Alike.{IsSameSides}

pub record IsSameHigh (cuts others : List CutRow) (k : ℕ) : Type 0 where
  pub there : k < length cuts ↔ k < length others
  pub high : cut_high cuts k ≡ cut_high others k

-- both have a column at the place, with the same cost, region and entries of each row and cut whose multiplier is not 0, or neither has
pub record IsSameColumn (M N : Program) (path : Path) (cuts others : List CutRow) (y z c d : ℕ → ℚ) (j : ℕ) : Type 0 where
  pub there : j < length M.cols ↔ j < length N.cols
  pub cost_is : c j ≡ d j
  pub low : region_low M path j ≡ region_low N path j
  pub high : region_high M path j ≡ region_high N path j
  pub entry : (i : ℕ) → (y i ≡ int (pos 0)) ⊎ ((coefficient M i j ≡ coefficient N i j) × (i < length M.rows ↔ i < length N.rows))
  pub cut_entry : (k : ℕ) → (z k ≡ int (pos 0)) ⊎ ((cut_coefficient cuts k j ≡ cut_coefficient others k j) × (k < length cuts ↔ k < length others))

-- the steps of the column's reduced cost have room, its bound is there, and its own term makes no step
pub record IsQuietColumn (F : Formulation) (path : Path) (y z c : ℕ → ℚ) (j : ℕ) : Type 0 where
  pub entries : EntriesFit F y z c j
  pub bound : ℚ
  pub bound_is : column_side F path y z c j ≡ Some bound
  pub quiet : (column_reduced_cost F y z c j ≡ int (pos 0)) ⊎ (bound ≡ int (pos 0))

pub record IsLikeQuestion (M N : Program) (path : Path) (cuts others : List CutRow) (y z c d : ℕ → ℚ) : Type 0 where
  pub rows_are : (i : ℕ) → (y i ≡ int (pos 0)) ⊎ IsSameSides M N i
  pub cuts_are : (k : ℕ) → (z k ≡ int (pos 0)) ⊎ IsSameHigh cuts others k
  pub columns_are : (j : ℕ) → IsSameColumn M N path cuts others y z c d j ⊎ ((j < length M.cols → IsQuietColumn (formulation M cuts) path y z c j) × (j < length N.cols → IsQuietColumn (formulation N others) path y z d j))
