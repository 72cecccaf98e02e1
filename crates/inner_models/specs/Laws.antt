-- What the inner models say of the model that they stand on. Objectives are whole, so that values at feasible points are.
use Rattle.std.specs.Prelude.{◌≡◌, ◌↔◌, length, take, Contains, ℤ, pos, ◌+ℤ◌, ◌*ℤ◌, ◌≤ℤ◌}
use Rattle.frac128.specs.Rational.{int, ◌+ℚ◌, ◌≤ℚ◌, ◌<ℚ◌}
use Rattle.lp_model.specs.Program.{Program, Point, value, least_value, constant, in_least_form, IsFeasible, IsOptimum, HasWholeObjective}
use Rattle.lp_model.specs.Lawful.{IsLawful, row_names, column_names}
use Rattle.model_points.specs.Rays.{IsUnbounded}
use Rattle.frontier.specs.Outcomes.{IsNondominated}
use Rattle.inner_models.specs.Inner.{bare_model, IsBare, z_name, g1_name, g2_name, least2_model, left_model, right_model, pull_model, gap_model}

-- ---- names

-- the new names are free, and those of the two rows differ
pub record AreNamesFree (N : Program) : Type 0 where
  pub column : ¬ Contains (column_names N) (z_name N)
  pub first : ¬ Contains (row_names N) (g1_name N)
  pub second : ¬ Contains (row_names N) (g2_name N)
  pub apart : ¬ (g1_name N ≡ g2_name N)

abbrev pub FreeNamesLaw : Type 0
FreeNamesLaw = (N : Program) → AreNamesFree N

-- ---- values

-- a model whose objective is whole is never unbounded: columns with a cost are integer, and have two bounds
abbrev pub BoundedLaw : Type 0
BoundedLaw = (M : Program) → IsLawful M → HasWholeObjective M 1 → ¬ IsUnbounded M

-- ---- the model in least form

-- it has the model's feasible points and their values in least form less the constants, so that the same points dominate the same
pub record KeepsPoints (M : Program) : Type 0 where
  pub feasible : (x : Point) → IsFeasible (bare_model M) x ↔ IsFeasible M x
  pub first : (x : Point) → least_value M 1 x ≡ in_least_form M.sense (constant M 1) +ℚ value (bare_model M) 1 x
  pub second : (x : Point) → least_value M 2 x ≡ in_least_form M.sense (constant M 2) +ℚ value (bare_model M) 2 x

-- it is lawful, and its objectives are whole where the model's are
pub record IsBareModel (M : Program) : Type 0 where
  pub bare : IsBare (bare_model M)
  pub points : KeepsPoints M
  pub lawful : IsLawful M → IsLawful (bare_model M)
  pub first : HasWholeObjective M 1 → HasWholeObjective (bare_model M) 1
  pub second : HasWholeObjective M 2 → HasWholeObjective (bare_model M) 2

abbrev pub BareLaw : Type 0
BareLaw = (M : Program) → IsBareModel M

-- ---- a gap

-- Where a and b are at least 1: a point of the gap's model with Z below a*b is a point of N with f1 < i1 + b and f2 < i2 + a, and
-- each such point extends to one. A point that is at most these values extends to one with Z = a*b.
pub record SweepsGap (N : Program) (a b i1 i2 : ℤ) : Type 0 where
  pub below :
      (y : Point) → IsFeasible (gap_model N a b i1 i2) y → value (gap_model N a b i1 i2) 1 y <ℚ int (a *ℤ b)
      → IsFeasible N (take (length N.cols) y) × ((value N 1 (take (length N.cols) y) <ℚ int (i1 +ℤ b)) × (value N 2 (take (length N.cols) y) <ℚ int (i2 +ℤ a)))
  pub extends :
      (x : Point) → IsFeasible N x → value N 1 x <ℚ int (i1 +ℤ b) → value N 2 x <ℚ int (i2 +ℤ a)
      → (y : Point) × (IsFeasible (gap_model N a b i1 i2) y × ((take (length N.cols) y ≡ x) × (value (gap_model N a b i1 i2) 1 y <ℚ int (a *ℤ b))))
  pub reaches :
      (x : Point) → IsFeasible N x → value N 1 x ≤ℚ int (i1 +ℤ b) → value N 2 x ≤ℚ int (i2 +ℤ a)
      → (y : Point) × (IsFeasible (gap_model N a b i1 i2) y × ((take (length N.cols) y ≡ x) × (value (gap_model N a b i1 i2) 1 y ≡ int (a *ℤ b))))

abbrev pub GapLaw : Type 0
GapLaw =
    (N : Program) (a b i1 i2 : ℤ) → IsLawful N → IsBare N → HasWholeObjective N 1 → HasWholeObjective N 2 → pos 1 ≤ℤ a → pos 1 ≤ℤ b
    → SweepsGap N a b i1 i2

-- ---- the ends, and the pull

-- min f2
abbrev pub Least2Law : Type 0
Least2Law =
    (N : Program) → IsLawful N → IsBare N
    → ((x : Point) → IsFeasible (least2_model N) x ↔ IsFeasible N x) × ((x : Point) → value (least2_model N) 1 x ≡ value N 2 x)

-- The best point with f1 at most its least value is nondominated; and the same of f2.
pub record FindsLeft (N : Program) (i1 : ℤ) : Type 0 where
  pub feasible : (x : Point) → IsFeasible (left_model N i1) x ↔ (IsFeasible N x × (value N 1 x ≤ℚ int i1))
  pub value_is : (x : Point) → value (left_model N i1) 1 x ≡ value N 2 x
  pub nondominated : (x : Point) → ((y : Point) → IsFeasible N y → int i1 ≤ℚ value N 1 y) → IsOptimum (left_model N i1) x → IsNondominated N x × (value N 1 x ≡ int i1)

abbrev pub LeftEndLaw : Type 0
LeftEndLaw = (N : Program) (i1 : ℤ) → IsLawful N → IsBare N → FindsLeft N i1

pub record FindsRight (N : Program) (i2 : ℤ) : Type 0 where
  pub feasible : (x : Point) → IsFeasible (right_model N i2) x ↔ (IsFeasible N x × (value N 2 x ≤ℚ int i2))
  pub value_is : (x : Point) → value (right_model N i2) 1 x ≡ value N 1 x
  pub nondominated : (x : Point) → ((y : Point) → IsFeasible N y → int i2 ≤ℚ value N 2 y) → IsOptimum (right_model N i2) x → IsNondominated N x × (value N 2 x ≡ int i2)

abbrev pub RightEndLaw : Type 0
RightEndLaw = (N : Program) (i2 : ℤ) → IsLawful N → IsBare N → FindsRight N i2

-- the point with the least sum among those that are no worse than r is nondominated
pub record FindsPull (N : Program) (r1 r2 : ℤ) : Type 0 where
  pub feasible : (x : Point) → IsFeasible (pull_model N r1 r2) x ↔ (IsFeasible N x × ((value N 1 x ≤ℚ int r1) × (value N 2 x ≤ℚ int r2)))
  pub value_is : (x : Point) → value (pull_model N r1 r2) 1 x ≡ value N 1 x +ℚ value N 2 x
  pub nondominated : (x : Point) → IsOptimum (pull_model N r1 r2) x → IsNondominated N x

abbrev pub PullLaw : Type 0
PullLaw = (N : Program) (r1 r2 : ℤ) → IsLawful N → IsBare N → FindsPull N r1 r2
