-- The parts into which a spelling is cut, and what they say.
use Rattle.std.specs.Prelude.{◌≡◌, ◌≢◌, ◌++◌, ℕ, ℤ, Bool, true}
use Rattle.std.specs.List.{list_all}
use Rattle.frac128.specs.Range.{with_sign}
use Rattle.frac_text.specs.Spelling.{Reading, NoNumber, is_digit, is_slash, is_e, is_point, value_of, coefficient_of, power_of, decimal_reading, quotient_reading}
use Rattle.frac_text.specs.declared.spelling.Mark.{Mark}
use Rattle.frac_text.specs.declared.spelling.Mark.TheVariants.{Slash, Exponent, Point}
use Rattle.frac_text.specs.declared.spelling.DecimalParts.{DecimalParts}
use Rattle.frac_text.specs.declared.spelling.QuotientParts.{QuotientParts}
use Rattle.frac_text.specs.declared.spelling.Parts.{Parts}
use Rattle.frac_text.specs.declared.spelling.Parts.TheVariants.{Decimal, Quotient, NoParts}

abbrev pub marks : Mark → ℕ → Bool
marks Slash = is_slash
marks Exponent = is_e
marks Point = is_point

-- what the parts of a decimal spelling say
abbrev pub decimal_coefficient : DecimalParts → ℕ
decimal_coefficient d = coefficient_of (d.whole.now ++ d.point.now)

abbrev pub decimal_power : DecimalParts → ℤ
decimal_power d = power_of (with_sign d.exponent_minus (value_of d.exponent.now)) d.point.now (d.whole.now ++ d.point.now)

abbrev pub decimal_says : DecimalParts → Reading
decimal_says d = decimal_reading d.minus (decimal_coefficient d) (decimal_power d)

pub record AreDecimal (d : DecimalParts) : Type 0 where
  pub whole : list_all is_digit d.whole.now ≡ true
  pub point : list_all is_digit d.point.now ≡ true
  pub exponent : list_all is_digit d.exponent.now ≡ true

-- what the parts of a quotient say
abbrev pub quotient_says : QuotientParts → Reading
quotient_says q = quotient_reading q.minus (value_of q.top.now) (value_of q.bottom.now)

pub record AreQuotient (q : QuotientParts) : Type 0 where
  pub top : list_all is_digit q.top.now ≡ true
  pub bottom : list_all is_digit q.bottom.now ≡ true
  pub nonzero : value_of q.bottom.now ≢ 0

-- the parts say what a text does, and their bytes are digits
abbrev pub Say : Reading → Parts → Type 0
Say reading (Decimal d) = (reading ≡ decimal_says d) × AreDecimal d
Say reading (Quotient q) = (reading ≡ quotient_says q) × AreQuotient q
Say reading NoParts = reading ≡ NoNumber
