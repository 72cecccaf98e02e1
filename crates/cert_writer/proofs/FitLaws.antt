-- A number that bytes spell has room.
use Rattle.std.proofs.Common.{◌≡◌, ◌≢◌, ℕ, zero, suc, ◌*◌, ◌^◌, ◌≤◌, Bool, true, false, ◌||◌, ◌&&◌, List, refl, arith, if◌then◌else◌}
use Rattle.std.specs.Prelude.{not, ◌==◌, nat_lt, ℤ, pos, negsuc, Result, Ok, Err}
use Rattle.std.specs.List.{list_any, before_first, after_first}
use Rattle.std.proofs.lemmas.Bool.Decides.{nat_tests}
use Rattle.frac128.specs.Rational.{ℚ, int, ◌/ℚ◌}
use Rattle.frac128.specs.Range.{Fits, largest}
use Rattle.frac_text.specs.Spelling.{Reading, Number, Wide, NoNumber, are_digits, is_slash, is_minus, without_sign, value_of, coefficient_of, power_of, mantissa, exponent, exponent_text, point_digits, is_decimal, is_quotient, scaled, signed, scaled_reading, decimal_reading, quotient_reading, slash_reading, plain_reading, unsigned_reading, reading_of}
use Rattle.frac_text.specs.Parsing.{parsed}
use Rattle.frac_text.specs.declared.parsing.NumFault.{NumFault}
use Rattle.frac_text.proofs.ParseTerms.{fits_quotient, ten_to}
use Rattle.frac128.proofs.Whole.{Fits-int, Fits-neg}
use Rattle.frac_text.specs.Parsing.{spelled_number}

abbrev pub ReadingFits : Reading → Type 0
ReadingFits (Number x) = Fits x
ReadingFits (Wide x) = Unit {0}
ReadingFits NoNumber = Unit {0}

abbrev pub FitsOk : Result ℚ NumFault → Type 0
FitsOk (Ok x) = Fits x
FitsOk (Err fault) = Unit {0}

signed-fits : (minus : Bool) (x : ℚ) → Fits x → Fits (signed minus x)
signed-fits true x fits = Fits-neg x fits
signed-fits false x fits = fits

not_over : (a b : ℕ) → nat_lt a b ≡ false → b ≤ a
not_over a b e = grind (arith, nat_tests)

quotient-fits : (minus : Bool) (n d : ℕ) → d ≢ 0 → ReadingFits (quotient_reading minus n d)
quotient-fits minus n d some = by (nat_lt largest n) (nat_lt largest d) refl refl
  where
    by : (a b : Bool) → nat_lt largest n ≡ a → nat_lt largest d ≡ b → ReadingFits (if a || b then Wide (signed minus (int (pos n) /ℚ int (pos d))) else Number (signed minus (int (pos n) /ℚ int (pos d))))
    by true b p q = tt
    by false true p q = tt
    by false false p q = signed-fits minus (int (pos n) /ℚ int (pos d)) (fits_quotient n d (not_over largest n p) (not_over largest d q) some)

last_true : (a b c : Bool) → (a && b && c) ≡ true → c ≡ true
last_true true true true e = refl
last_true true true false e = e
last_true true false true e = refl
last_true true false false e = e
last_true false true true e = refl
last_true false true false e = e
last_true false false true e = refl
last_true false false false e = e

no_zero : (n : ℕ) → not (n == 0) ≡ true → n ≢ 0
no_zero zero e none = let f : false ≡ true = e in cc
no_zero (suc n) e none = omega (arith, none)

slash-fits : (minus : Bool) (top bottom : List ℕ) → ReadingFits (slash_reading minus top bottom)
slash-fits minus top bottom = by (is_quotient top bottom) refl
  where
    by : (b : Bool) → is_quotient top bottom ≡ b → ReadingFits (if b then quotient_reading minus (value_of top) (value_of bottom) else NoNumber)
    by true e = quotient-fits minus (value_of top) (value_of bottom) (no_zero (value_of bottom) (last_true (are_digits top) (are_digits bottom) (not (value_of bottom == 0)) e))
    by false e = tt

scaled-fits : (minus : Bool) (m : ℕ) (e : ℤ) → ReadingFits (scaled_reading minus m e)
scaled-fits minus m (pos e) = by (nat_lt largest m) (nat_lt 38 e) (nat_lt largest (m * 10 ^ e)) refl
  where
    by : (a b c : Bool) → nat_lt largest (m * 10 ^ e) ≡ c → ReadingFits (if a || (b || c) then Wide (signed minus (scaled m (pos e))) else Number (signed minus (scaled m (pos e))))
    by true b c p = tt
    by false true c p = tt
    by false false true p = tt
    by false false false p = signed-fits minus (int (pos (m * 10 ^ e))) (Fits-int (pos (m * 10 ^ e)) (not_over largest (m * 10 ^ e) p))
scaled-fits minus m (negsuc e) = by (nat_lt largest m) (nat_lt 38 (suc e)) refl refl
  where
    by : (a b : Bool) → nat_lt largest m ≡ a → nat_lt 38 (suc e) ≡ b → ReadingFits (if a || b then Wide (signed minus (scaled m (negsuc e))) else Number (signed minus (scaled m (negsuc e))))
    by true b p q = tt
    by false true p q = tt
    by false false p q =
        let ten = ten_to (suc e) (not_over 38 (suc e) q) in
        let some : 10 ^ suc e ≢ 0 = λ none. let t = ten.0 in omega (arith, t, none) in
        signed-fits minus (int (pos m) /ℚ int (pos (10 ^ suc e))) (fits_quotient m (10 ^ suc e) (not_over largest m p) ten.1 some)

decimal-fits : (minus : Bool) (m : ℕ) (e : ℤ) → ReadingFits (decimal_reading minus m e)
decimal-fits minus m e = by (m == 0) (scaled-fits minus m e)
  where
    by : (b : Bool) → ReadingFits (scaled_reading minus m e) → ReadingFits (if b then Number (int (pos 0)) else scaled_reading minus m e)
    by true rest = Fits-int (pos 0) (omega arith)
    by false rest = rest

plain-fits : (minus : Bool) (bytes : List ℕ) → ReadingFits (plain_reading minus bytes)
plain-fits minus bytes = by (is_decimal bytes) (decimal-fits minus (coefficient_of (mantissa bytes)) (power_of (exponent (exponent_text bytes)) (point_digits bytes) (mantissa bytes)))
  where
    by : (b : Bool) → ReadingFits (decimal_reading minus (coefficient_of (mantissa bytes)) (power_of (exponent (exponent_text bytes)) (point_digits bytes) (mantissa bytes))) →
        ReadingFits (if b then decimal_reading minus (coefficient_of (mantissa bytes)) (power_of (exponent (exponent_text bytes)) (point_digits bytes) (mantissa bytes)) else NoNumber)
    by true rest = rest
    by false rest = tt

unsigned-fits : (minus : Bool) (bytes : List ℕ) → ReadingFits (unsigned_reading minus bytes)
unsigned-fits minus bytes = by (list_any is_slash bytes) (slash-fits minus (before_first is_slash bytes) (after_first is_slash bytes)) (plain-fits minus bytes)
  where
    by : (b : Bool) → ReadingFits (slash_reading minus (before_first is_slash bytes) (after_first is_slash bytes)) → ReadingFits (plain_reading minus bytes) →
        ReadingFits (if b then slash_reading minus (before_first is_slash bytes) (after_first is_slash bytes) else plain_reading minus bytes)
    by true slash plain = slash
    by false slash plain = plain

reading-fits : (bytes : List ℕ) → ReadingFits (reading_of bytes)
unfolding reading_of
reading-fits bytes = unsigned-fits (is_minus bytes) (without_sign bytes)

pub number-fits : (field : List ℕ) → FitsOk (spelled_number field)
number-fits field = by (reading_of field) (reading-fits field)
  where
    by : (r : Reading) → ReadingFits r → FitsOk (parsed r)
    by (Number x) fits = fits
    by (Wide x) fits = tt
    by NoNumber fits = tt
