-- Whether the sides that RANGES gives have room is decided, and where they have it they are a range: the low one is never above
-- the high one.
use Rattle.std.proofs.Common.{◌≡◌, ◌≤◌, Bool, true, false, not, [], ◌∷◌, refl, sym, ◌∙◌, ap, pos}
use Rattle.std.specs.Prelude.{if◌then◌else◌, Option, None, Some, IfSome}
use Rattle.std.proofs.lemmas.Bool.{and_parts, true≢false, false_from_ne_true}
use Rattle.frac128.specs.Rational.{ℚ, int, neg_ℚ, ◌+ℚ◌, ◌-ℚ◌, ◌≤ℚ◌, rational_le}
use Rattle.frac128.proofs.Comparison.{rational_le-decides}
use Rattle.frac128.specs.RationalOrder.{≤ℚ_of_<ℚ, <ℚ_from_not, linear}
use Rattle.frac128.specs.RationalRing.{reads_ℚ}
use Rattle.frac128.specs.Range.{Fits, SumFits, sum_fits}
use Rattle.frac128.proofs.RoomTests.{sum_fits-decides}
use Rattle.lp_model.specs.Lawful.{AreSubtractable, IsRange}
use Rattle.mps_fields.specs.Numbers.{is_negative, absolute}
use Rattle.mps_fields.specs.declared.words.RowKind.{RowKind}
use Rattle.mps_fields.specs.declared.words.RowKind.TheVariants.{Free, AtMost, AtLeast, Equal}
use Rattle.mps_model.specs.Ranges.{ranged_low, ranged_high, difference_fits, side_fits, are_subtractable, has_room}
use Rattle.mps_model.specs.Meaning.{low_side_with, high_side_with}
use Rattle.mps_model.proofs.RowRanges.{sides_range}

near_where : (lo hi : ℚ) → are_subtractable lo hi ≡ true → AreSubtractable lo hi
near_where lo hi e =
    let parts = and_parts (difference_fits hi lo) (difference_fits hi (hi -ℚ lo)) e in
    record { width = (sum_fits-decides hi (neg_ℚ lo)).0 parts.0; back = (sum_fits-decides hi (neg_ℚ (hi -ℚ lo))).0 parts.1 }

-- ---- order

not_negative : (r : ℚ) → is_negative r ≡ false → int (pos 0) ≤ℚ r
not_negative r e = (rational_le-decides (int (pos 0)) r).0 (by (rational_le (int (pos 0)) r) e)
  where
    by : (b : Bool) → not b ≡ false → b ≡ true
    by true e = refl
    by false e = absurd (true≢false e)

negative : (r : ℚ) → is_negative r ≡ true → r ≤ℚ int (pos 0)
negative r e = ≤ℚ_of_<ℚ (<ℚ_from_not r (int (pos 0)) (λ h. true≢false (sym e ∙ ap not ((rational_le-decides (int (pos 0)) r).1 h))))

absolute_from_zero : (r : ℚ) → int (pos 0) ≤ℚ absolute r
absolute_from_zero r = by (is_negative r) refl
  where
    by : (b : Bool) → is_negative r ≡ b → int (pos 0) ≤ℚ (if b then neg_ℚ r else r)
    by true e = linear (r ∷ []) (negative r e) (search reads_ℚ) tt
    by false e = not_negative r e

below : (x m : ℚ) → int (pos 0) ≤ℚ m → x -ℚ m ≤ℚ x
below x m h = linear (x ∷ m ∷ []) h (search reads_ℚ) tt

above : (x m : ℚ) → int (pos 0) ≤ℚ m → x ≤ℚ x +ℚ m
above x m h = linear (x ∷ m ∷ []) h (search reads_ℚ) tt

under : (x r : ℚ) → r ≤ℚ int (pos 0) → x +ℚ r ≤ℚ x
under x r h = linear (x ∷ r ∷ []) h (search reads_ℚ) tt

equal_ordered : (x r : ℚ) → (if is_negative r then x +ℚ r else x) ≤ℚ (if is_negative r then x else x +ℚ r)
equal_ordered x r = by (is_negative r) refl
  where
    by : (b : Bool) → is_negative r ≡ b → (if b then x +ℚ r else x) ≤ℚ (if b then x else x +ℚ r)
    by true e = under x r (negative r e)
    by false e = above x r (not_negative r e)

-- the low side is not above the high one
pub ends_ordered : (kind : RowKind) (x r : ℚ) → ranged_low kind x r ≤ℚ ranged_high kind x r
ends_ordered Free x r = equal_ordered x r
ends_ordered AtMost x r = below x (absolute r) (absolute_from_zero r)
ends_ordered AtLeast x r = above x (absolute r) (absolute_from_zero r)
ends_ordered Equal x r = equal_ordered x r

-- sides with room are a range
pub ranged_range : (kind : RowKind) (x r : ℚ) → has_room kind x r ≡ true → IsRange (Some (ranged_low kind x r)) (Some (ranged_high kind x r))
ranged_range kind x r e =
    let parts = and_parts (side_fits kind x r) (are_subtractable (ranged_low kind x r) (ranged_high kind x r)) e in
    (ends_ordered kind x r, near_where (ranged_low kind x r) (ranged_high kind x r) parts.1)

pub sides_with-range : (kind : RowKind) (x : ℚ) (range : Option ℚ) → Fits x → IfSome range (λ r. has_room kind x r ≡ true) → IsRange (low_side_with kind x range) (high_side_with kind x range)
sides_with-range kind x None fits room = sides_range kind x fits
sides_with-range kind x (Some r) fits room = ranged_range kind x r (room)

-- a side that is needed has room
pub side_has_room : (kind : RowKind) (x r : ℚ) → has_room kind x r ≡ true → side_fits kind x r ≡ true
side_has_room kind x r e = (and_parts (side_fits kind x r) (are_subtractable (ranged_low kind x r) (ranged_high kind x r)) e).0

pub sum_has_room : (x y : ℚ) → SumFits x y → sum_fits x y ≡ true
sum_has_room x y fits = (sum_fits-decides x y).1 fits

pub sum_lacks_room : (x y : ℚ) → ¬ SumFits x y → sum_fits x y ≡ false
sum_lacks_room x y wide = false_from_ne_true (sum_fits x y) (λ e. wide ((sum_fits-decides x y).0 e))
