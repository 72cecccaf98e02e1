-- What contracts of private functions alone cite, beside specs/Sides.
use Rattle.std.specs.Prelude.{◌≢◌, ◌<◌, ◌≤◌, ◌-◌, ◌^◌, ℕ, Bool, if◌then◌else◌, List, [], ◌∷◌}
use Rattle.frac128.specs.Rational.{ℚ, rational_le}
use Rattle.frac_text.specs.declared.numeral.Side.{Side}
use Rattle.frac_text.specs.declared.numeral.Side.TheVariants.{Above, Between, Below}
use Rattle.frac_text.specs.Sides.{far}

-- whether a magnitude is 10^20 or more
abbrev pub reaches : ℚ → Bool
reaches x = rational_le far x

abbrev pub side_from : Bool → Bool → Side
side_from minus reached = if reached then (if minus then Below else Above) else Between

-- a number of k decimal digits, none of them for 0
pub record HasDigits (n k : ℕ) : Type 0 where
  pub below : n < 10 ^ k
  pub above : n ≢ 0 → (0 < k) × (10 ^ (k - 1) ≤ n)

-- digits that do not begin with a zero
abbrev pub IsTrimmed : List ℕ → Type 0
IsTrimmed [] = Unit {0}
IsTrimmed (digit ∷ digits) = 48 < digit
