-- Entries that are whole numbers over one common denominator, and those after an exchange, over another one.
use Rattle.std.specs.Prelude.{◌≡◌, ℕ, ◌+◌, ◌*◌, ◌/◌, ◌%◌, ◌<◌, ◌==◌, Bool, false, ℤ, pos, negsuc, neg_ℤ, ◌<ℤ◌, unsigned_abs, List, length, get_or}
use Rattle.frac128.specs.Rational.{ℚ}
use Rattle.frac128.specs.LowestTerms.{quotient_of}
pub use Rattle.whole_sums.specs.Wholes.{IsShort, whole_number_at}
use Rattle.table_entries.specs.Steps.{PivotStepFits, step_value}

-- x is a short number over the denominator
abbrev pub IsShortOver : ℤ → ℚ → Type 0
IsShortOver denominator x = (n : ℤ) × (IsShort n × (x ≡ quotient_of n denominator))

abbrev pub magnitude : ℤ → ℤ
magnitude p = pos (unsigned_abs p)

-- n with the sign of p
abbrev pub by_sign : ℤ → ℤ → ℤ
by_sign (pos p) n = n
by_sign (negsuc p) n = neg_ℤ n

-- n is the number over `after` of the entry after the exchange, each step to which has room
pub record IsWholeStep (is_row is_place : Bool) (denominator after pivot in_row in_place entry n : ℤ) : Type 0 where
  pub short : IsShort n
  pub value : quotient_of n after ≡ step_value is_row is_place (quotient_of pivot denominator) (quotient_of in_row denominator) (quotient_of in_place denominator) (quotient_of entry denominator)
  pub fits : PivotStepFits is_row is_place (quotient_of pivot denominator) (quotient_of in_row denominator) (quotient_of in_place denominator) (quotient_of entry denominator)

-- ---- numbers in a list, row by row

-- n is the number after the exchange of row r and place s where `at` leads to
abbrev pub WholeAt : ℕ → ℕ → ℕ → ℤ → ℤ → List ℤ → ℤ → ℕ → Type 0
WholeAt columns r s denominator after numbers n at =
    IsWholeStep (at / columns == r) (at % columns == s) denominator after (whole_number_at numbers (r * columns + s)) (whole_number_at numbers (r * columns + at % columns)) (whole_number_at numbers (at / columns * columns + s)) (whole_number_at numbers at) n

-- whether a row is not written, by a list of flags; behind the list rows are written
abbrev pub is_unwritten : List Bool → ℕ → Bool
is_unwritten unwritten i = get_or unwritten i false

-- the first numbers of `next`, as many as `end`, where their rows are written
abbrev pub AreWritten : ℕ → ℕ → ℕ → ℤ → ℤ → List ℤ → List Bool → List ℤ → ℕ → Type 0
AreWritten columns r s denominator after numbers unwritten next end = (at : ℕ) → at < end → is_unwritten unwritten (at / columns) ≡ false → WholeAt columns r s denominator after numbers (whole_number_at next at) at

abbrev pub AreShort : List ℤ → Type 0
AreShort numbers = (at : ℕ) → at < length numbers → IsShort (whole_number_at numbers at)

-- the numbers of the rows that are written are below the limit
abbrev pub AreWithin : ℕ → ℕ → List Bool → ℤ → List ℤ → Type 0
AreWithin rows columns unwritten limit numbers = (i k : ℕ) → i < rows → k < columns → is_unwritten unwritten i ≡ false → magnitude (whole_number_at numbers (i * columns + k)) <ℤ limit
