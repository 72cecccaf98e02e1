-- How many points regions have: whole numbers of the integer columns, whatever the others.
--     numbers_within lo hi         how many whole numbers two bounds allow
--     column_points M path j       those of an integer column in the region, and one of any other
--     points M path                their product over the columns
use Rattle.std.specs.Prelude.{ℕ, zero, suc, ◌*◌, ℤ, ◌-ℤ◌, int_le, unsigned_abs, if◌then◌else◌, length, Option, Some, None}
use Rattle.frac128.specs.Rational.{ℚ, floor, ceil}
use Rattle.lp_model.specs.Program.{Program, is_integer}
use Rattle.lp_model.specs.Regions.{Path, region_low, region_high}

abbrev pub whole_numbers_from : ℤ → ℤ → ℕ
whole_numbers_from l h = if int_le l h then suc (unsigned_abs (h -ℤ l)) else 0

-- none where a bound is missing
abbrev pub numbers_within : Option ℚ → Option ℚ → ℕ
numbers_within (Some l) (Some h) = whole_numbers_from (ceil l) (floor h)
numbers_within (Some l) None = 0
numbers_within None hi = 0

-- f 0 * .. * f (n - 1)
abbrev pub product_below : ℕ → (ℕ → ℕ) → ℕ
product_below zero f = 1
product_below (suc n) f = product_below n f * f n

abbrev pub column_points : Program → Path → ℕ → ℕ
column_points M path j = if is_integer M j then numbers_within (region_low M path j) (region_high M path j) else 1

abbrev pub points : Program → Path → ℕ
points M path = product_below (length M.cols) (column_points M path)
