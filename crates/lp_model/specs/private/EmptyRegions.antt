-- A column that a path names, and that has no number in the path's region.
use Rattle.std.specs.Prelude.{◌≡◌, ℕ, ◌<◌, ◌⊎◌, [], ◌∷◌, length}
use Rattle.lp_model.specs.Program.{Program}
use Rattle.lp_model.specs.Regions.{Path, region_low, region_high, IsCrossed}

-- a change of the path is one of the column
abbrev pub IsNamed : ℕ → Path → Type 0
IsNamed j [] = ⊥
IsNamed j (c ∷ path) = (c.col.0 ≡ j) ⊎ IsNamed j path

-- column j is there, and its interval has no number
pub record IsEmptyColumn (M : Program) (path : Path) (j : ℕ) : Type 0 where
  pub below : j < length M.cols
  pub crossed : IsCrossed (region_low M path j) (region_high M path j)

abbrev pub IsEmptyWhereNamed : Program → Path → Type 0
IsEmptyWhereNamed M path = (j : ℕ) × (IsNamed j path × IsEmptyColumn M path j)
