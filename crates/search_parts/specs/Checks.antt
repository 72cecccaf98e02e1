-- What a result has to be, for a leaf with a path.
use Rattle.std.specs.Prelude.{ℕ, ◌<◌, IsTrue, ℤ, Option, Some, None, length}
use Rattle.frac128.specs.Rational.{ℚ, int, ◌≤ℚ◌, ◌<ℚ◌}
use Rattle.lp_model.specs.Program.{Program, is_integer}
use Rattle.lp_model.specs.Regions.{Path, region_low, region_high}

-- there is a lower bound, and v is no less; there is an upper bound, and v is less
abbrev pub IsFrom : Option ℚ → ℤ → Type 0
IsFrom None v = ⊥
IsFrom (Some low) v = low ≤ℚ int v

abbrev pub IsUnder : Option ℚ → ℤ → Type 0
IsUnder None v = ⊥
IsUnder (Some high) v = int v <ℚ high

-- an integer column that is there, with a number in the region up to v and one above v
pub record IsSplitAllowed (M : Program) (path : Path) (j : ℕ) (v : ℤ) : Type 0 where
  pub there : j < length M.cols
  pub integer : IsTrue (is_integer M j)
  pub low : IsFrom (region_low M path j) v
  pub high : IsUnder (region_high M path j) v
