-- The kept points of a search, oldest first.
use Rattle.std.specs.Prelude.{◌≡◌, ℕ, ◌<◌, true, List, [], ◌∷◌, length, All, get_or, pos, Option, Some, None, Ok}
use Rattle.frac128.specs.Rational.{ℚ, int, ◌≤ℚ◌, ◌<ℚ◌, min_ℚ}
use Rattle.lp_model.specs.Program.{Program, Point, least_value, value}
use Rattle.model_points.specs.Answers.{IsFeasibilityAnswer, IsValueAnswer}

-- the point is feasible, and no step of its test or its value lacks room
pub record IsKeepable (M : Program) (x : Point) : Type 0 where
  pub shape : length x ≡ length M.cols
  pub feasible : IsFeasibilityAnswer M x (Ok true)
  pub value : IsValueAnswer M 1 x (Ok (value M 1 x))

abbrev pub lesser : ℚ → Option ℚ → ℚ
lesser v None = v
lesser v (Some w) = min_ℚ v w

-- the least value of the points, in least form
abbrev pub target : Program → List Point → Option ℚ
target M [] = None
target M (x ∷ xs) = Some (lesser (least_value M 1 x) (target M xs))

abbrev pub value_at : List ℚ → ℕ → ℚ
value_at values k = get_or values k (int (pos 0))

-- the value at k is the least of the first n, and the first of those equal to it
pub record IsOldestOf (values : List ℚ) (n k : ℕ) : Type 0 where
  pub within : k < n
  pub least : (i : ℕ) → i < n → value_at values k ≤ℚ value_at values i
  pub oldest : (i : ℕ) → i < k → value_at values k <ℚ value_at values i

abbrev pub IsOldestLeast : List ℚ → ℕ → Type 0
IsOldestLeast values k = IsOldestOf values (length values) k

-- the point at k has the least value, and is the oldest of those that have it
pub record IsIncumbentAt (M : Program) (points : List Point) (x : Point) (k : ℕ) : Type 0 where
  pub within : k < length points
  pub is : get_or points k x ≡ x
  pub least : All (λ y. least_value M 1 x ≤ℚ least_value M 1 y) points
  pub oldest : (i : ℕ) → i < k → least_value M 1 x <ℚ least_value M 1 (get_or points i x)

abbrev pub IsIncumbent : Program → List Point → Option Point → Type 0
IsIncumbent M points None = points ≡ []
IsIncumbent M points (Some x) = (k : ℕ) × IsIncumbentAt M points x k
