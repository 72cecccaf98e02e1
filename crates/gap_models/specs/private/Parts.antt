-- The weights of a gap with its width, and its sides.
use Rattle.std.specs.Prelude.{◌≡◌, ℤ, ◌*ℤ◌}
use Rattle.frac128.specs.Rational.{ℚ, int, ◌*ℚ◌}
use Rattle.gap_models.specs.declared.gaps.Weights.{Weights}
use Rattle.gap_models.specs.declared.gaps.Sides.{Sides}

pub record IsWeighed (a b : ℤ) (w : Weights) : Type 0 where
  pub first : w.a ≡ int a
  pub second : w.b ≡ int b
  pub width : w.width ≡ int (a *ℤ b)

pub record AreSidesOf (a b : ℚ) (i1 i2 : ℤ) (s : Sides) : Type 0 where
  pub first : s.first ≡ a *ℚ int i1
  pub second : s.second ≡ b *ℚ int i2
