-- The sides that RANGES gives a row, and whether their numbers have room.
use Rattle.std.specs.Prelude.{Bool, ◌&&◌, if◌then◌else◌}
use Rattle.frac128.specs.Rational.{ℚ, ◌+ℚ◌, ◌-ℚ◌, neg_ℚ}
use Rattle.frac128.specs.Range.{sum_fits}
use Rattle.mps_fields.specs.Numbers.{is_negative, absolute}
use Rattle.mps_fields.specs.declared.words.RowKind.{RowKind}
use Rattle.mps_fields.specs.declared.words.RowKind.TheVariants.{AtMost, AtLeast}

-- ---- the sides of a row with the number x of RHS and the number r of RANGES
--     L   [x - |r|, x]
--     G   [x, x + |r|]
--     E   [x, x + r] where r is 0 or more, [x + r, x] where it is below 0

abbrev pub ranged_low : RowKind → ℚ → ℚ → ℚ
ranged_low AtMost x r = x -ℚ absolute r
ranged_low AtLeast x r = x
ranged_low kind x r = if is_negative r then x +ℚ r else x

abbrev pub ranged_high : RowKind → ℚ → ℚ → ℚ
ranged_high AtMost x r = x
ranged_high AtLeast x r = x +ℚ absolute r
ranged_high kind x r = if is_negative r then x else x +ℚ r

-- ---- room

abbrev pub difference_fits : ℚ → ℚ → Bool
difference_fits x y = sum_fits x (neg_ℚ y)

-- the side that RANGES gives has room
abbrev pub side_fits : RowKind → ℚ → ℚ → Bool
side_fits AtMost x r = difference_fits x (absolute r)
side_fits AtLeast x r = sum_fits x (absolute r)
side_fits kind x r = sum_fits x r

-- hi - lo and hi - (hi - lo) have room
abbrev pub are_subtractable : ℚ → ℚ → Bool
are_subtractable lo hi = difference_fits hi lo && difference_fits hi (hi -ℚ lo)

abbrev pub has_room : RowKind → ℚ → ℚ → Bool
has_room kind x r = side_fits kind x r && are_subtractable (ranged_low kind x r) (ranged_high kind x r)
