-- One more kept point: it stands last, and beyond the limit the worst goes.
use Rattle.std.specs.Prelude.{◌≡◌, ℕ, ◌<◌, ◌≤◌, List, [], ◌∷◌, ◌++◌, length, map, Option, Some, None}
use Rattle.std.specs.List.{remove}
use Rattle.frac128.specs.Rational.{ℚ, ◌≤ℚ◌, ◌<ℚ◌}
use Rattle.lp_model.specs.Limits.{point_limit}
use Rattle.lp_model.specs.Program.{Program, Point, least_value}
use Rattle.search_parts.specs.declared.points.Joined.{Joined}
use Rattle.search_parts.specs.Points.{target, value_at, IsOldestLeast}

-- the value at k is the greatest of the first n, and the first of those equal to it
pub record IsOldestGreatestOf (values : List ℚ) (n k : ℕ) : Type 0 where
  pub within : k < n
  pub greatest : (i : ℕ) → i < n → value_at values i ≤ℚ value_at values k
  pub oldest : (i : ℕ) → i < k → value_at values i <ℚ value_at values k

-- the value that goes: beyond the limit the greatest, of equals the oldest
abbrev pub IsWorst : List ℚ → Option ℕ → Type 0
IsWorst values None = length values ≤ point_limit
IsWorst values (Some k) = (point_limit < length values) × IsOldestGreatestOf values (length values) k

abbrev pub IsPlaceWithin : ℕ → Option ℕ → Type 0
IsPlaceWithin n None = Unit {0}
IsPlaceWithin n (Some k) = k < n

abbrev pub list_without : {A : Type 0} → List A → Option ℕ → List A
list_without xs None = xs
list_without xs (Some k) = remove xs k

-- the points with x last, and beyond the limit without the worst
abbrev pub AddsPoint : Program → List Point → Point → List Point → Type 0
AddsPoint M points x new = (worst : Option ℕ) × (IsWorst (map (least_value M 1) (points ++ x ∷ [])) worst × (new ≡ list_without (points ++ x ∷ []) worst))

-- the least of the values, if there are any
abbrev pub IsLeastValue : List ℚ → Option ℚ → Type 0
IsLeastValue values None = values ≡ []
IsLeastValue values (Some v) = (k : ℕ) × (IsOldestLeast values k × (v ≡ value_at values k))

-- the values with v last, and beyond the limit without the worst
pub record Joins (values : List ℚ) (v : ℚ) (joined : Joined) : Type 0 where
  pub worst : IsWorst (values ++ v ∷ []) joined.worst
  pub values_are : joined.values.items ≡ list_without (values ++ v ∷ []) joined.worst
  pub target : IsLeastValue joined.values.items joined.target
