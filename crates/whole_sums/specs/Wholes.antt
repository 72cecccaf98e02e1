-- Whole numbers over one denominator: sums of products of them that have room, step by step.
use Rattle.std.specs.Prelude.{◌≡◌, ◌^◌, ◌<◌, ◌≤◌, ℕ, ◌<ℤ◌, ◌*ℤ◌, ℤ, pos, unsigned_abs, List, get_or}
use Rattle.frac128.specs.Rational.{ℚ, ◌*ℚ◌}
use Rattle.frac128.specs.LowestTerms.{quotient_of}

-- a whole number below 2 ^ 62, whose product with another such number has room
abbrev pub IsShort : ℤ → Type 0
IsShort n = unsigned_abs n < 2 ^ 62

-- a total to which one more product of short numbers can be added
abbrev pub HasMargin : ℤ → Type 0
HasMargin total = unsigned_abs total ≤ 2 ^ 126

pub record IsDenominator (d : ℤ) : Type 0 where
  pub positive : pos 0 <ℤ d
  pub short : IsShort d

-- the product of the factor a and the number x is that of f and n, over the denominator
pub record IsWholeTerm (denominator : ℤ) (a x : ℚ) (f n : ℤ) : Type 0 where
  pub factor_short : IsShort f
  pub number_short : IsShort n
  pub product : a *ℚ x ≡ quotient_of (f *ℤ n) denominator

abbrev pub whole_number_at : List ℤ → ℕ → ℤ
whole_number_at numbers at = get_or numbers at (pos 0)
