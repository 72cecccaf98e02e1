-- The model that a model's canonical lists mean is the model: sides by type and range, numbers beside names, bounds by their lines.
use Rattle.std.proofs.Common.{◌≡◌, Bool, true, false, not, ◌&&◌, [], ◌∷◌, refl, sym, ◌∙◌, ap, pos}
use Rattle.std.specs.Prelude.{if◌then◌else◌, Option, None, Some}
use Rattle.std.specs.Ordering.{eq_by_cmp}
use Rattle.frac128.specs.Rational.{ℚ, int, neg_ℚ, ◌-ℚ◌, ◌≤ℚ◌, rational_cmp}
use Rattle.frac128.proofs.Comparison.{eq_by_cmp-decides, rational_le-decides}
use Rattle.frac128.specs.RationalOrder.{linear}
use Rattle.frac128.specs.RationalRing.{ring, reads_ℚ}
use Rattle.lp_model.specs.Lawful.{IsRange}
use Rattle.mps_fields.specs.Numbers.{is_negative, absolute}
use Rattle.mps_fields.specs.declared.numbers.Limit.{Limit}
use Rattle.mps_fields.specs.declared.numbers.Limit.TheVariants.{Finite}
use Rattle.mps_fields.specs.declared.words.RowKind.{RowKind}
use Rattle.mps_fields.specs.declared.words.RowKind.TheVariants.{AtMost, AtLeast, Equal}
use Rattle.mps_fields.specs.declared.words.BoundKind.TheVariants.{Lower, Upper, NoLower, NoUpper}
use Rattle.mps_model.specs.Ranges.{ranged_low}
use Rattle.mps_model.specs.Meaning.{low_side_with, high_side_with, start_span}
use Rattle.mps_model.specs.Spans.{bounded}
use Rattle.mps_model.specs.declared.spans.Span.{Span}
use Rattle.mps_writer.specs.Canonical.{right_side}

-- ---- rows

-- how a row with these sides is written: its type, its number of RHS, and its number of RANGES
abbrev pub kind_by : Bool → RowKind
kind_by equal = if equal then Equal else AtMost

abbrev pub kind_of : Option ℚ → Option ℚ → RowKind
kind_of lo None = AtLeast
kind_of None (Some high) = AtMost
kind_of (Some low) (Some high) = kind_by (eq_by_cmp rational_cmp low high)

abbrev pub range_of : Option ℚ → Option ℚ → Option ℚ
range_of (Some low) (Some high) = if eq_by_cmp rational_cmp low high then None else Some (high -ℚ low)
range_of lo hi = None

positive : (low high : ℚ) → low ≤ℚ high → is_negative (high -ℚ low) ≡ false
positive low high h = ap not ((rational_le-decides (int (pos 0)) (high -ℚ low)).1 (linear (low ∷ high ∷ []) h (search reads_ℚ) tt))

pub width : (low high : ℚ) → low ≤ℚ high → absolute (high -ℚ low) ≡ high -ℚ low
width low high h = ap (λ b. if b then neg_ℚ (high -ℚ low) else high -ℚ low) (positive low high h)

back : (low high : ℚ) → low ≤ℚ high → ranged_low AtMost high (high -ℚ low) ≡ low
back low high h = ap (λ w. high -ℚ w) (width low high h) ∙ ring (low ∷ high ∷ []) (search reads_ℚ) tt

-- both sides come back
pub sides_back : (lo hi : Option ℚ) → IsRange lo hi → (low_side_with (kind_of lo hi) (right_side lo hi) (range_of lo hi) ≡ lo) × (high_side_with (kind_of lo hi) (right_side lo hi) (range_of lo hi) ≡ hi)
sides_back None None range = absurd range
sides_back None (Some high) range = (refl, refl)
sides_back (Some low) None range = (refl, refl)
sides_back (Some low) (Some high) range = by (eq_by_cmp rational_cmp low high) refl
  where
    by : (b : Bool) → eq_by_cmp rational_cmp low high ≡ b
        → (low_side_with (kind_by b) high (if b then None else Some (high -ℚ low)) ≡ Some low) × (high_side_with (kind_by b) high (if b then None else Some (high -ℚ low)) ≡ Some high)
    by true e = (ap Some (sym ((eq_by_cmp-decides low high).0 e)), refl)
    by false e = (ap Some (back low high range.0), refl)

-- ---- bounds

-- a column's span behind its two lines: where a line has no number its limit is not looked at
abbrev pub lower_set : Limit → Option ℚ → Span → Span
lower_set l (Some x) s = bounded s Lower (Finite x)
lower_set l None s = bounded s NoLower l

abbrev pub upper_set : Limit → Option ℚ → Span → Span
upper_set l (Some x) s = bounded s Upper (Finite x)
upper_set l None s = bounded s NoUpper l

abbrev pub whole_span : Bool → Option ℚ → Option ℚ → Span
whole_span integer lower upper = record { integer = integer; lower = lower; upper = upper; named = true }

-- the lower bound is named, so no upper bound takes it away
pub bounds_back : (l : Limit) (integer : Bool) (lower upper : Option ℚ) → upper_set l upper (lower_set l lower (start_span integer)) ≡ whole_span integer lower upper
bounds_back l integer (Some x) (Some y) = by (is_negative y)
  where
    by : (b : Bool) → whole_span integer (if (b && false) then None else Some x) (Some y) ≡ whole_span integer (Some x) (Some y)
    by true = refl
    by false = refl
bounds_back l integer (Some x) None = refl
bounds_back l integer None (Some y) = by (is_negative y)
  where
    by : (b : Bool) → whole_span integer (if (b && false) then None else None) (Some y) ≡ whole_span integer None (Some y)
    by true = refl
    by false = refl
bounds_back l integer None None = refl

-- ---- constants

pub constant_back : (x : ℚ) → neg_ℚ (neg_ℚ x) ≡ x
constant_back x = ring (x ∷ []) (search reads_ℚ) tt
