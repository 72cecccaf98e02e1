-- What contracts of private functions alone cite, beside specs/EditedPoints.
use Rattle.std.specs.Prelude.{◌≡◌, ◌⊎◌, List, [], ◌∷◌, ◌++◌}
use Rattle.frac128.specs.Rational.{ℚ}
use Rattle.lp_model.specs.Program.{Program, Point, least_value}
use Rattle.search_parts.specs.Points.{IsKeepable}

-- the point is added, where it may be kept, with its value
abbrev pub AddsKeepable : Program → Point → List Point → List ℚ → List Point → List ℚ → Type 0
AddsKeepable M x points values points' values' =
    ((¬ IsKeepable M x) × (points' ≡ points) × (values' ≡ values))
    ⊎ (IsKeepable M x × (points' ≡ points ++ x ∷ []) × (values' ≡ values ++ least_value M 1 x ∷ []))
