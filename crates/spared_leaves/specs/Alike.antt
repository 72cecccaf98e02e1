-- Models and lists of cuts of which a leaf's numbers take the same, but for what is touched.
use Rattle.std.specs.Prelude.{◌≡◌, ◌↔◌, ℕ, ◌<◌, true, List, length}
use Rattle.lp_model.specs.Program.{Program, constant, cost, coefficient, lower, upper, is_integer, low_side, high_side}
use Rattle.lp_model.specs.Cuts.{is_live}
use Rattle.lp_model.specs.Formulations.{cut_coefficient, cut_high}
use Rattle.lp_model.specs.declared.types.CutRow.{CutRow}
use Rattle.spared_leaves.specs.declared.touched.Touched.{Touched}
use Rattle.spared_leaves.specs.Touched.{leaves_row, leaves_entries, leaves_cost, leaves_column}

-- both have a row at the place, with the same sides, or neither has
pub record IsSameSides (M N : Program) (i : ℕ) : Type 0 where
  pub there : i < length M.rows ↔ i < length N.rows
  pub low : low_side M i ≡ low_side N i
  pub high : high_side M i ≡ high_side N i

-- both have a column at the place, with the same bounds and of the same kind, or neither has
pub record IsSameRange (M N : Program) (j : ℕ) : Type 0 where
  pub there : j < length M.cols ↔ j < length N.cols
  pub low : lower M j ≡ lower N j
  pub up : upper M j ≡ upper N j
  pub integer : is_integer M j ≡ is_integer N j

-- both lists have a cut at the place or neither has, with the same row
pub record IsSameCut (cuts others : List CutRow) (k : ℕ) : Type 0 where
  pub there : k < length cuts ↔ k < length others
  pub high : cut_high cuts k ≡ cut_high others k
  pub entry : (j : ℕ) → cut_coefficient cuts k j ≡ cut_coefficient others k j

-- objective 1, rows, columns and coefficients are the same but for what is touched
pub record AreAlikeBut (t : Touched) (M N : Program) : Type 0 where
  pub sense : M.sense ≡ N.sense
  pub constant_is : constant M 1 ≡ constant N 1
  pub cost_is : (j : ℕ) → leaves_cost t j ≡ true → cost M 1 j ≡ cost N 1 j
  pub columns : (j : ℕ) → leaves_column t j ≡ true → IsSameRange M N j
  pub rows : (i : ℕ) → leaves_row t i ≡ true → IsSameSides M N i
  pub entry : (i j : ℕ) → leaves_entries t i ≡ true → leaves_column t j ≡ true → coefficient M i j ≡ coefficient N i j

-- each cut that counts in both lists is the same
abbrev pub AreAlikeCuts : List CutRow → List CutRow → Type 0
AreAlikeCuts cuts others = (k : ℕ) → is_live cuts k ≡ true → is_live others k ≡ true → IsSameCut cuts others k
