-- What the number means that a point gets for a new column.
use Rattle.std.specs.Prelude.{Bool, pos, Option}
use Rattle.frac128.specs.Rational.{ℚ, int, ◌≤ℚ◌, ◌<ℚ◌}
use Rattle.lp_model.specs.Program.{IsAllowed}
use Rattle.search_parts.specs.EditedPoints.{nearest_zero}

-- v is allowed, and none that is allowed is nearer to 0: where v is above 0 it is the least, where it is below the greatest
pub record IsNearestZero (integer : Bool) (lo up : Option ℚ) (v : ℚ) : Type 0 where
  pub allowed : IsAllowed integer lo up v
  pub above : (u : ℚ) → IsAllowed integer lo up u → int (pos 0) <ℚ v → v ≤ℚ u
  pub below : (u : ℚ) → IsAllowed integer lo up u → v <ℚ int (pos 0) → u ≤ℚ v

-- where a number is allowed at all
abbrev pub NearestLaw : Type 0
NearestLaw = (integer : Bool) (lo up : Option ℚ) (w : ℚ) → IsAllowed integer lo up w → IsNearestZero integer lo up (nearest_zero integer lo up)
