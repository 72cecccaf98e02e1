-- The numbers of a gap, and which of them has no room. The order is: the weights a and b and the width a*b; column by column the
-- coefficients a*cost1 and b*cost2; the sides a*i1 and b*i2.
use Rattle.std.specs.Prelude.{◌≡◌, ◌<◌, ℤ, ◌*ℤ◌, List, length, take, get_or, All}
use Rattle.frac128.specs.Rational.{ℚ, int, ◌*ℚ◌}
use Rattle.frac128.specs.Range.{IsNarrow, Fits}
use Rattle.lp_model.specs.Program.{Program}
use Rattle.lp_model.specs.declared.types.Col.{Col}
use Rattle.lp_model.specs.declared.types.ColId.{ColId}
use Rattle.gap_models.specs.declared.gaps.Gap.{Gap}
use Rattle.gap_models.specs.declared.gaps.GapPlace.{GapPlace}
use Rattle.gap_models.specs.declared.gaps.GapPlace.TheVariants as place

-- ---- what has room

pub record HasWidth (a b : ℤ) : Type 0 where
  pub first : IsNarrow a
  pub second : IsNarrow b
  pub width : IsNarrow (a *ℤ b)

-- the coefficients of a column in the two rows
pub record HasTerms (a b : ℚ) (c : Col) : Type 0 where
  pub first : Fits (a *ℚ c.cost)
  pub second : Fits (b *ℚ c.cost2)

pub record HasSides (a b : ℚ) (i1 i2 : ℤ) : Type 0 where
  pub first : Fits (a *ℚ int i1)
  pub second : Fits (b *ℚ int i2)

pub record FitsGap (N : Program) (a b i1 i2 : ℤ) : Type 0 where
  pub width : HasWidth a b
  pub columns : All (HasTerms (int a) (int b)) N.cols
  pub sides : HasSides (int a) (int b) i1 i2

-- ---- the numbers

pub record IsGapOf (a b i1 i2 : ℤ) (g : Gap) : Type 0 where
  pub first_weight : g.a ≡ int a
  pub second_weight : g.b ≡ int b
  pub width : g.width ≡ int (a *ℤ b)
  pub first_side : g.side1 ≡ int (a *ℤ i1)
  pub second_side : g.side2 ≡ int (b *ℤ i2)

-- ---- the first without room

pub record IsFirstWideColumn (a b : ℚ) (cols : List Col) (col : ColId) : Type 0 where
  pub within : col.0 < length cols
  pub before : All (HasTerms a b) (take col.0 cols)
  pub wide : (c : Col) → ¬ HasTerms a b (get_or cols col.0 c)

abbrev pub IsFirstGapPlace : Program → ℤ → ℤ → ℤ → ℤ → GapPlace → Type 0
IsFirstGapPlace N a b i1 i2 place.Width = ¬ HasWidth a b
IsFirstGapPlace N a b i1 i2 (place.Col col) = HasWidth a b × IsFirstWideColumn (int a) (int b) N.cols col
IsFirstGapPlace N a b i1 i2 place.Side = HasWidth a b × All (HasTerms (int a) (int b)) N.cols × (¬ HasSides (int a) (int b) i1 i2)
