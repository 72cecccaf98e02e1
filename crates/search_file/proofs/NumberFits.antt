-- A number that a text spells has room.
use Rattle.std.specs.Prelude.{◌≡◌, ◌≢◌, ℕ, suc, ◌*◌, ◌^◌, ◌≤◌, Bool, true, false, not, ◌==◌, ◌&&◌, ◌||◌, nat_lt, if◌then◌else◌, List, ℤ, pos, negsuc, Ok}
use Rattle.std.specs.List.{list_any, before_first, after_first}
use Rattle.std.proofs.Common.{refl, subst, arith}
use Rattle.std.proofs.lemmas.Bool.Decides.{nat_tests, Decides-eqb}
use Rattle.frac128.specs.Rational.{ℚ, int, ◌/ℚ◌}
use Rattle.frac128.specs.Range.{IsNarrow, Fits, largest}
use Rattle.frac128.proofs.Whole.{Fits-int, Fits-zero, Fits-neg}
use Rattle.frac_text.specs.Spelling.{Reading, Number, Wide, NoNumber, value_of, are_digits, is_minus, without_sign, is_slash, is_decimal, mantissa, point_digits, exponent, exponent_text, coefficient_of, power_of, scaled, is_wide_power, signed, scaled_reading, decimal_reading, is_quotient, quotient_reading, slash_reading, plain_reading, reading_of}
use Rattle.frac_text.specs.Parsing.{parsed}
use Rattle.frac_text.proofs.ParseTerms.{fits_quotient, ten_to}

abbrev HasRoomRead : Reading → Type 0
HasRoomRead (Number x) = Fits x
HasRoomRead (Wide x) = Unit {0}
HasRoomRead NoNumber = Unit {0}

neither : (a b : Bool) → (a || b) ≡ false → (a ≡ false) × (b ≡ false)
neither true b e = absurd (cc)
neither false b e = (refl, e)

not_less : (a b : ℕ) → nat_lt a b ≡ false → b ≤ a
not_less a b e = grind (arith, nat_tests)

signed-fits : (minus : Bool) (x : ℚ) → Fits x → Fits (signed minus x)
signed-fits true x f = Fits-neg x f
signed-fits false x f = f

scaled-fits : (m : ℕ) (e : ℤ) → m ≤ largest → is_wide_power m e ≡ false → Fits (scaled m e)
scaled-fits m (pos e) few w = let both = neither (nat_lt 38 e) (nat_lt largest (m * 10 ^ e)) w in let room : IsNarrow (pos (m * 10 ^ e)) = not_less largest (m * 10 ^ e) both.1 in Fits-int (pos (m * 10 ^ e)) room
scaled-fits m (negsuc e) few w = let t = ten_to (suc e) (not_less 38 (suc e) w) in fits_quotient m (10 ^ suc e) few t.1 (λ none. absurd (omega (arith, t.0, none)))

scaled-room : (minus : Bool) (m : ℕ) (e : ℤ) → HasRoomRead (scaled_reading minus m e)
scaled-room minus m e = by (nat_lt largest m || is_wide_power m e) refl
  where
    by : (c : Bool) → (nat_lt largest m || is_wide_power m e) ≡ c → HasRoomRead (if c then Wide (signed minus (scaled m e)) else Number (signed minus (scaled m e)))
    by true w = tt
    by false w = let both = neither (nat_lt largest m) (is_wide_power m e) w in signed-fits minus (scaled m e) (scaled-fits m e (not_less largest m both.0) both.1)

decimal-room : (minus : Bool) (m : ℕ) (e : ℤ) → HasRoomRead (decimal_reading minus m e)
decimal-room minus m e = elim (m == 0) as (λ c. HasRoomRead (if c then Number (int (pos 0)) else scaled_reading minus m e)) [ true ↦ Fits-zero | false ↦ scaled-room minus m e ]

quotient-room : (minus : Bool) (n d : ℕ) → d ≢ 0 → HasRoomRead (quotient_reading minus n d)
quotient-room minus n d some = by (nat_lt largest n || nat_lt largest d) refl
  where
    by : (c : Bool) → (nat_lt largest n || nat_lt largest d) ≡ c → HasRoomRead (if c then Wide (signed minus (int (pos n) /ℚ int (pos d))) else Number (signed minus (int (pos n) /ℚ int (pos d))))
    by true w = tt
    by false w = let both = neither (nat_lt largest n) (nat_lt largest d) w in signed-fits minus (int (pos n) /ℚ int (pos d)) (fits_quotient n d (not_less largest n both.0) (not_less largest d both.1) some)

last_of_three : (a b c : Bool) → (a && b && not c) ≡ true → c ≡ false
last_of_three true true true e = absurd (cc)
last_of_three true true false e = refl
last_of_three true false c e = absurd (cc)
last_of_three false b c e = absurd (cc)

slash-room : (minus : Bool) (top bottom : List ℕ) → HasRoomRead (slash_reading minus top bottom)
slash-room minus top bottom = by (is_quotient top bottom) refl
  where
    by : (c : Bool) → is_quotient top bottom ≡ c → HasRoomRead (if c then quotient_reading minus (value_of top) (value_of bottom) else NoNumber)
    by true q =
        let other : (value_of bottom == 0) ≡ false = last_of_three (are_digits top) (are_digits bottom) (value_of bottom == 0) q in
        quotient-room minus (value_of top) (value_of bottom) (λ zero. let t : (value_of bottom == 0) ≡ true = (Decides-eqb (value_of bottom) 0).1 zero in absurd (cc))
    by false q = tt

plain-room : (minus : Bool) (bytes : List ℕ) → HasRoomRead (plain_reading minus bytes)
plain-room minus bytes =
    elim (is_decimal bytes) as (λ c. HasRoomRead (if c then decimal_reading minus (coefficient_of (mantissa bytes)) (power_of (exponent (exponent_text bytes)) (point_digits bytes) (mantissa bytes)) else NoNumber)) [
      | true ↦ decimal-room minus (coefficient_of (mantissa bytes)) (power_of (exponent (exponent_text bytes)) (point_digits bytes) (mantissa bytes))
      | false ↦ tt
    ]

reading-room : (text : List ℕ) → HasRoomRead (reading_of text)
unfolding reading_of
reading-room text =
    elim (list_any is_slash (without_sign text)) as (λ c. HasRoomRead (if c then slash_reading (is_minus text) (before_first is_slash (without_sign text)) (after_first is_slash (without_sign text)) else plain_reading (is_minus text) (without_sign text))) [
      | true ↦ slash-room (is_minus text) (before_first is_slash (without_sign text)) (after_first is_slash (without_sign text))
      | false ↦ plain-room (is_minus text) (without_sign text)
    ]

-- the number that a text spells
pub spelled-fits : (text : List ℕ) (x : ℚ) → parsed (reading_of text) ≡ Ok x → Fits x
spelled-fits text x e = by (reading_of text) (reading-room text) e
  where
    by : (r : Reading) → HasRoomRead r → parsed r ≡ Ok x → Fits x
    by (Number y) f h = let same : y ≡ x = cc in subst Fits same f
    by (Wide y) f h = absurd (cc)
    by NoNumber f h = absurd (cc)
