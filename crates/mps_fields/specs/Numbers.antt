-- The numbers of a text, and the limits that BOUNDS states.
use Rattle.std.specs.Prelude.{ℕ, Bool, true, false, not, ◌||◌, if◌then◌else◌, List, codes, Option, None, Some, Result, Ok, Err, pos}
use Rattle.frac128.specs.Rational.{ℚ, int, neg_ℚ, rational_le}
use Rattle.frac_text.specs.Sides.{side_of, numeral_of}
use Rattle.frac_text.specs.declared.numeral.Side.{Side}
use Rattle.frac_text.specs.declared.numeral.Side.TheVariants.{Above, Between, Below}
use Rattle.frac_text.specs.declared.numeral.Numeral.{Numeral}
use Rattle.frac_text.specs.declared.numeral.Numeral.TheVariants.{Number, Wide, NotNumber as NoNumber}
use Rattle.frac_text.specs.Spelling.{reading_of, is_minus, without_sign}
use Rattle.mps_fields.specs.Words.{is_key}
use Rattle.mps_fields.specs.declared.words.BoundKind.{BoundKind}
use Rattle.mps_fields.specs.declared.words.BoundKind.TheVariants.{Lower, Upper, Fixed, IntegerLower, IntegerUpper}
use Rattle.frac_text.specs.declared.parsing.NumFault.{NumFault}
use Rattle.frac_text.specs.declared.parsing.NumFault.TheVariants.{NotNumber, Wide as TooWide}
use Rattle.mps_fields.specs.declared.numbers.Limit.{Limit}
use Rattle.mps_fields.specs.declared.numbers.Limit.TheVariants.{Finite, Plus, Minus}
use Rattle.frac_text.specs.Parsing.{spelled_number}

-- ---- numbers

abbrev pub number_or_zero : Result ℚ NumFault → ℚ
number_or_zero (Ok x) = x
number_or_zero (Err flaw) = int (pos 0)

abbrev pub field_number : List ℕ → ℚ
field_number field = number_or_zero (spelled_number field)

abbrev pub is_negative : ℚ → Bool
is_negative x = not (rational_le (int (pos 0)) x)

abbrev pub absolute : ℚ → ℚ
absolute x = if is_negative x then neg_ℚ x else x

abbrev pub is_not_number : {A : Type 0} → Result A NumFault → Bool
is_not_number (Ok x) = false
is_not_number (Err NotNumber) = true
is_not_number (Err TooWide) = false

abbrev pub is_too_wide : {A : Type 0} → Result A NumFault → Bool
is_too_wide (Ok x) = false
is_too_wide (Err NotNumber) = false
is_too_wide (Err TooWide) = true

-- ---- limits: infinite where the magnitude is 10^20 or more

abbrev pub is_infinite_word : List ℕ → Bool
is_infinite_word field = is_key (codes "INF") (without_sign field) || is_key (codes "INFINITY") (without_sign field)

-- the limit that a number states that stands so
abbrev pub limit_beside : Side → ℚ → Limit
limit_beside Above x = Plus
limit_beside Below x = Minus
limit_beside Between x = Finite x

abbrev pub limit_at : ℚ → Limit
limit_at x = limit_beside (side_of x) x

-- a number that is too wide counts by the side at which it stands
abbrev pub limit_at_side : Side → Result Limit NumFault
limit_at_side Above = Ok Plus
limit_at_side Below = Ok Minus
limit_at_side Between = Err TooWide

abbrev pub limit_read : Numeral → Result Limit NumFault
limit_read (Number x) = Ok (limit_at x)
limit_read (Wide side) = limit_at_side side
limit_read NoNumber = Err NotNumber

abbrev pub infinite : Bool → Limit
infinite minus = if minus then Minus else Plus

abbrev pub limit_of : List ℕ → Result Limit NumFault
limit_of field = if is_infinite_word field then Ok (infinite (is_minus field)) else limit_read (numeral_of (reading_of field))

abbrev pub limit_or_plus : Result Limit NumFault → Limit
limit_or_plus (Ok l) = l
limit_or_plus (Err flaw) = Plus

-- what a bound line's number states (where it is no number the line is faulty, or doesn't look at it)
abbrev pub limit : List ℕ → Limit
limit field = limit_or_plus (limit_of field)

abbrev pub finite : Limit → Option ℚ
finite (Finite x) = Some x
finite Plus = None
finite Minus = None

abbrev pub is_below_zero : Limit → Bool
is_below_zero (Finite x) = is_negative x
is_below_zero Plus = false
is_below_zero Minus = true

-- a bound with an infinite number on the wrong side
abbrev pub is_misplaced : BoundKind → Limit → Bool
is_misplaced Lower Plus = true
is_misplaced IntegerLower Plus = true
is_misplaced Fixed Plus = true
is_misplaced Fixed Minus = true
is_misplaced Upper Minus = true
is_misplaced IntegerUpper Minus = true
is_misplaced kind l = false
