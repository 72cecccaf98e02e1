-- The kept points after an edit of the model: each gets a number for a new column, and loses that of a column that is taken out;
-- those stay that are feasible in the edited model, in their order.
use Rattle.std.specs.Prelude.{◌≡◌, ◌⊎◌, Bool, false, not, if◌then◌else◌, List, [], ◌∷◌, ◌++◌, map, pos, Option, Some, None}
use Rattle.std.specs.Option.{option_map}
use Rattle.frac128.specs.Rational.{ℚ, int, floor, ceil, max_ℚ, min_ℚ, rational_le}
use Rattle.lp_model.specs.Elements.{without_at}
use Rattle.lp_model.specs.Program.{Program, Point, least_value}
use Rattle.lp_model.specs.Edits.{col_place}
use Rattle.lp_model.specs.declared.types.Edit.{Edit}
use Rattle.lp_model.specs.declared.types.Edit.TheVariants.{AddCol, DelCol}
use Rattle.search_parts.specs.Points.{IsKeepable}

-- ---- the number that a point gets for a new column

-- the bounds, for an integer column the least and the greatest whole number allowed
abbrev pub low_allowed : Bool → Option ℚ → Option ℚ
low_allowed integer lo = if integer then option_map (λ l. int (ceil l)) lo else lo

abbrev pub high_allowed : Bool → Option ℚ → Option ℚ
high_allowed integer up = if integer then option_map (λ h. int (floor h)) up else up

-- no less than the lower bound, then no more than the upper one
abbrev pub raised : Option ℚ → ℚ → ℚ
raised None v = v
raised (Some l) v = max_ℚ v l

abbrev pub lowered : Option ℚ → ℚ → ℚ
lowered None v = v
lowered (Some h) v = min_ℚ v h

-- no number is between the bounds
abbrev pub holds_none : Option ℚ → Option ℚ → Bool
holds_none None high = false
holds_none (Some l) None = false
holds_none (Some l) (Some h) = not (rational_le l h)

-- the number nearest to 0 between the bounds, whole for an integer column; 0 where there is none
abbrev pub nearest_zero : Bool → Option ℚ → Option ℚ → ℚ
nearest_zero integer lo up =
    if holds_none (low_allowed integer lo) (high_allowed integer up) then int (pos 0)
    else lowered (high_allowed integer up) (raised (low_allowed integer lo) (int (pos 0)))

-- ---- points

abbrev pub point_after : Program → Edit → Point → Point
point_after M (AddCol name integer lo up cost cost2 named) x = x ++ nearest_zero integer lo up ∷ []
point_after M (DelCol col) x = without_at x (col_place M col)
point_after M e x = x

-- ys are those of the points that may be kept, in their order
abbrev pub AreKeepable : Program → List Point → List Point → Type 0
AreKeepable M [] ys = ys ≡ []
AreKeepable M (x ∷ xs) ys = ((¬ IsKeepable M x) × AreKeepable M xs ys) ⊎ (IsKeepable M x × ((rest : List Point) × ((ys ≡ x ∷ rest) × AreKeepable M xs rest)))

-- the kept points of a search after an edit, and their values in least form
pub record AreValued (M : Program) (xs ys : List Point) (values : List ℚ) : Type 0 where
  pub keepable : AreKeepable M xs ys
  pub values_are : values ≡ map (least_value M 1) ys
