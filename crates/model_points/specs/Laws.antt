-- What rays prove of a model, how its points stay those of the model without costs, and what the bounds of a region say.
use Rattle.std.specs.Prelude.{◌≡◌, ◌↔◌, ℕ, ◌<◌, Bool, true, false, length, pos, Result, Ok}
use Rattle.frac128.specs.Rational.{int}
use Rattle.lp_model.specs.Program.{Program, Point, coordinate, cost, coefficient, lower, upper, is_integer, AtLeast, AtMost, Within, IsFeasible}
use Rattle.lp_model.specs.Regions.{Path, NamesColumns, InRegion, region_low, region_high, IsEmptyRegion}
use Rattle.lp_model.specs.declared.types.WideStep.{WideStep}
use Rattle.model_points.specs.Rays.{IsRay, IsRayJudged, IsUnbounded, without_costs}

-- a ray beside a feasible point leads below each number
abbrev pub UnboundedLaw : Type 0
UnboundedLaw = (M : Program) (x d : Point) → IsFeasible M x → IsRay M d → IsUnbounded M

-- an answer of the test that names no step is true, and there is one answer alone
pub record IsJudgedRightly (M : Program) (d : Point) : Type 0 where
  pub ray : IsRayJudged M d (Ok true) → IsRay M d
  pub none : IsRayJudged M d (Ok false) → ¬ IsRay M d
  pub one : (r s : Result Bool WideStep) → IsRayJudged M d r → IsRayJudged M d s → r ≡ s

abbrev pub RayJudgedLaw : Type 0
RayJudgedLaw = (M : Program) (d : Point) → IsJudgedRightly M d

-- what the model without costs shares with the model: all but the costs of objective 1
pub record HasSamePoints (M : Program) : Type 0 where
  pub count : length (without_costs M).cols ≡ length M.cols
  pub costs : (j : ℕ) → cost (without_costs M) 1 j ≡ int (pos 0)
  pub second_costs : (j : ℕ) → cost (without_costs M) 2 j ≡ cost M 2 j
  pub coefficients : (i j : ℕ) → coefficient (without_costs M) i j ≡ coefficient M i j
  pub lowers : (j : ℕ) → lower (without_costs M) j ≡ lower M j
  pub uppers : (j : ℕ) → upper (without_costs M) j ≡ upper M j
  pub integers : (j : ℕ) → is_integer (without_costs M) j ≡ is_integer M j
  pub region_lows : (path : Path) (j : ℕ) → region_low (without_costs M) path j ≡ region_low M path j
  pub region_highs : (path : Path) (j : ℕ) → region_high (without_costs M) path j ≡ region_high M path j
  pub feasible : (x : Point) → IsFeasible (without_costs M) x ↔ IsFeasible M x
  pub empty : (path : Path) → IsEmptyRegion (without_costs M) path ↔ IsEmptyRegion M path

abbrev pub SamePointsLaw : Type 0
SamePointsLaw = (M : Program) → HasSamePoints M

-- the numbers of the columns are within the region's bounds
pub record IsWithinRegion (M : Program) (path : Path) (x : Point) : Type 0 where
  pub low : (j : ℕ) → j < length M.cols → AtLeast (region_low M path j) (coordinate x j)
  pub high : (j : ℕ) → j < length M.cols → AtMost (region_high M path j) (coordinate x j)

-- they are then within the model's own, and meet each change of the path
abbrev pub InRegionLaw : Type 0
InRegionLaw =
    (M : Program) (path : Path) (x : Point) → NamesColumns M path → IsWithinRegion M path x
    → ((j : ℕ) → j < length M.cols → Within (lower M j) (upper M j) (coordinate x j)) × InRegion path x
