-- The text of a number: its numerator in decimal digits, and `/` and the denominator where that is not 1.
use Rattle.std.specs.Prelude.{◌==◌, if◌then◌else◌, ℕ, List, ◌∷◌, ◌++◌}
use Rattle.std.specs.Fmt.{decimal, signed_decimal}
use Rattle.frac128.specs.Rational.{ℚ, den}

unfoldable pub printed : ℚ → List ℕ
printed x = if den x == 1 then signed_decimal x.num else signed_decimal x.num ++ 47 ∷ decimal (den x)
