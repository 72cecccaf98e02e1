-- Numbers of leaves whose terms are short over one denominator: each total of them has room, and another side of a row, whose term is short
-- too, leaves it to each step.
use Rattle.std.specs.Prelude.{ℕ, ◌+◌, ◌^◌, ◌≤◌, ℤ, length}
use Rattle.frac128.specs.Rational.{ℚ}
use Rattle.checked_sum.specs.Steps.{AllFit}
use Rattle.kept_totals.specs.Short.{IsShortFraction, AreShortProducts}
use Rattle.whole_sums.specs.Wholes.{IsDenominator}
use Rattle.lp_model.specs.Regions.{Path}
use Rattle.lp_model.specs.Formulations.{Formulation}
use Rattle.leaf_dual.specs.Dual.{column_reduced_cost}
use Rattle.leaf_dual.specs.Answers.{row_number, RowsFit, cut_number, CutsFit, cuts_total, bound_number}

-- the constant and the products of rows, cuts and columns are short numbers over d
pub record AreShortTerms (d : ℤ) (F : Formulation) (path : Path) (y z : ℕ → ℚ) (c₀ : ℚ) (c : ℕ → ℚ) : Type 0 where
  pub start : IsShortFraction d c₀
  pub rows : AreShortProducts d y (row_number F.model y) (length F.model.rows)
  pub cuts : AreShortProducts d z (cut_number F.cuts z) (length F.cuts)
  pub columns : AreShortProducts d (column_reduced_cost F y z c) (bound_number F path y z c) (length F.model.cols)

-- so few that their total has room
abbrev pub AreFewTerms : Formulation → Type 0
AreFewTerms F = 1 + length F.model.rows + length F.cuts + length F.model.cols ≤ 2 ^ 64

-- then all their steps have room
abbrev pub ShortTermsLaw : Type 0
ShortTermsLaw =
    (d : ℤ) → IsDenominator d → (F : Formulation) (path : Path) (y z : ℕ → ℚ) (c₀ : ℚ) (c : ℕ → ℚ) → AreFewTerms F → AreShortTerms d F path y z c₀ c
    → RowsFit F.model y c₀ × (CutsFit F y z c₀ × AllFit (cuts_total F y z c₀) (column_reduced_cost F y z c) (bound_number F path y z c) (length F.model.cols))
