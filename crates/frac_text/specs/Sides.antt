-- What bytes spell, where a number that is too wide still counts by its size: it stands at 10^20 or above, at -10^20 or below, or between.
use Rattle.std.specs.Prelude.{◌^◌, if◌then◌else◌, pos}
use Rattle.frac128.specs.Rational.{ℚ, int, neg_ℚ, rational_le}
use Rattle.frac_text.specs.Spelling.{Reading, Number, Wide, NoNumber}
use Rattle.frac_text.specs.declared.numeral.Side.{Side}
use Rattle.frac_text.specs.declared.numeral.Side.TheVariants.{Above, Between, Below}
use Rattle.frac_text.specs.declared.numeral.Numeral.{Numeral}
use Rattle.frac_text.specs.declared.numeral.Numeral.TheVariants.{Number as NumberRead, Wide as WideRead, NotNumber}

-- a bound of this magnitude on its own side of 0 bounds nothing
abbrev pub far : ℚ
far = int (pos (10 ^ 20))

abbrev pub side_of : ℚ → Side
side_of x =
    if rational_le far x then Above
    else if rational_le x (neg_ℚ far) then Below
    else Between

abbrev pub numeral_of : Reading → Numeral
numeral_of (Number x) = NumberRead x
numeral_of (Wide x) = WideRead (side_of x)
numeral_of NoNumber = NotNumber
