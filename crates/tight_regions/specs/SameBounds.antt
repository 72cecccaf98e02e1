-- Lists of bound changes that leave the same bounds of each column.
use Rattle.std.specs.Prelude.{◌≡◌}
use Rattle.lp_model.specs.Regions.{Path, low_along, high_along}

-- the bounds of each column after the changes
pub record SameBounds (R P : Path) : Type 0 where
  pub low : low_along R ≡ low_along P
  pub high : high_along R ≡ high_along P
