-- How the numbers of a row after an exchange come from those before it.
use Rattle.std.specs.Prelude.{◌≡◌, ◌<◌, ◌^◌, ◌<ℤ◌, Bool, true, false, ℤ, pos, ◌-ℤ◌, ◌*ℤ◌, unsigned_abs}
use Rattle.table_entries.specs.WholeSteps.{IsShort, magnitude, by_sign}

-- the difference of two products of such numbers has 64 bits
abbrev pub Has32Bits : ℤ → Type 0
Has32Bits n = unsigned_abs n < 2 ^ 31

-- a way is gone in 64 bits where its numbers are such, and nothing is multiplied
pub record IsWay32 (factor scale divisor multiplier : ℤ) : Type 0 where
  pub factor_32 : Has32Bits factor
  pub scale_32 : Has32Bits scale
  pub divisor_32 : Has32Bits divisor
  pub multiplier_one : multiplier ≡ pos 1

-- a / b is the number by the denominator
pub record IsRatio (number denominator a b : ℤ) : Type 0 where
  pub positive : pos 0 <ℤ b
  pub top_short : IsShort a
  pub bottom_short : IsShort b
  pub same : a *ℤ denominator ≡ number *ℤ b

-- what is divided, in the entering place or not
abbrev pub divided : Bool → ℤ → ℤ → ℤ → ℤ → ℤ → ℤ
divided true denominator factor scale in_row entry = factor *ℤ denominator
divided false denominator factor scale in_row entry = entry *ℤ scale -ℤ factor *ℤ in_row

-- by what it is multiplied and divided, in the leaving row or in another one
abbrev pub LeadsOver : Bool → ℤ → ℤ → ℤ → ℤ → ℤ → ℤ → ℤ → ℤ → Type 0
LeadsOver true denominator after pivot in_place factor scale divisor multiplier = (factor ≡ by_sign pivot (pos 1)) × ((scale ≡ pos 0) × (multiplier *ℤ magnitude pivot ≡ after *ℤ divisor))
LeadsOver false denominator after pivot in_place factor scale divisor multiplier = (factor *ℤ magnitude pivot ≡ by_sign pivot in_place *ℤ scale) × (multiplier *ℤ (denominator *ℤ scale) ≡ after *ℤ divisor)

-- the numbers of a row after the exchange, over `after`, are what is divided by `divisor`, times `multiplier`
pub record IsWay (is_row : Bool) (denominator after pivot in_place factor scale divisor multiplier : ℤ) : Type 0 where
  pub positive : pos 0 <ℤ divisor
  pub factor_short : IsShort factor
  pub scale_short : IsShort scale
  pub divisor_short : IsShort divisor
  pub multiplier_short : IsShort multiplier
  pub leads : LeadsOver is_row denominator after pivot in_place factor scale divisor multiplier
