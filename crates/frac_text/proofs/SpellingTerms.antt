-- What a spelling says, from its parts.
use Rattle.std.specs.Prelude.{◌≡◌, ℕ, ◌<◌, ◌++◌, Bool, true, false, not, ◌&&◌, if◌then◌else◌, List, pos, ◌+ℤ◌, ◌-ℤ◌, unsigned_abs, ◌^◌}
use Rattle.std.specs.List.{list_all, list_any, before_first, after_first}
use Rattle.std.proofs.Common.{refl, sym, ap, ap₂, ◌∙◌, arith}
use Rattle.std.proofs.lemmas.Int.{ints}
use Rattle.frac128.specs.Range.{with_sign}
use Rattle.frac_text.proofs.Cuts.{both, after_none, all_parts}
use Rattle.frac_text.specs.Spelling.{NoNumber, reading_of, is_digit, are_digits, is_empty, value_of, whole_digits, is_slash, is_point, is_e, is_minus, without_sign, slash_reading, plain_reading, is_decimal, decimal_reading, mantissa, exponent, exponent_text, point_digits, coefficient_of, power_of}

pub reading-slash : (bytes : List ℕ) → list_any is_slash (without_sign bytes) ≡ true
    → reading_of bytes ≡ slash_reading (is_minus bytes) (before_first is_slash (without_sign bytes)) (after_first is_slash (without_sign bytes))
unfolding reading_of
reading-slash bytes e = rw e refl

pub reading-plain : (bytes : List ℕ) → list_any is_slash (without_sign bytes) ≡ false → reading_of bytes ≡ plain_reading (is_minus bytes) (without_sign bytes)
unfolding reading_of
reading-plain bytes e = rw e refl

pub plain-decimal : (minus : Bool) (bytes : List ℕ) → is_decimal bytes ≡ true
    → plain_reading minus bytes ≡ decimal_reading minus (coefficient_of (mantissa bytes)) (power_of (exponent (exponent_text bytes)) (point_digits bytes) (mantissa bytes))
plain-decimal minus bytes e = ap (λ b. if b then decimal_reading minus (coefficient_of (mantissa bytes)) (power_of (exponent (exponent_text bytes)) (point_digits bytes) (mantissa bytes)) else NoNumber) e

pub plain-none : (minus : Bool) (bytes : List ℕ) → is_decimal bytes ≡ false → plain_reading minus bytes ≡ NoNumber
plain-none minus bytes e = ap (λ b. if b then decimal_reading minus (coefficient_of (mantissa bytes)) (power_of (exponent (exponent_text bytes)) (point_digits bytes) (mantissa bytes)) else NoNumber) e

-- an exponent that large decides by itself
pub far_power : (minus : Bool) (v p d : ℕ) → 2 ^ 100 < v → p < 2 ^ 64 → d < 2 ^ 64 → 38 < unsigned_abs (with_sign minus v -ℤ pos p +ℤ pos d)
far_power true v p d h k l = omega (arith, ints)
far_power false v p d h k l = omega (arith, ints)

module _ (bytes body before after : List ℕ) (minus : Bool) (minus_is : minus ≡ is_minus bytes) (body_is : body ≡ without_sign bytes) where
  pub reads_slash : before ≡ before_first is_slash body → after ≡ after_first is_slash body → list_any is_slash body ≡ true → reading_of bytes ≡ slash_reading minus before after
  reads_slash p q found =
      reading-slash bytes (ap (list_any is_slash) (sym body_is) ∙ found)
      ∙ sym (λ i. slash_reading (minus_is i) ((p ∙ ap (before_first is_slash) body_is) i) ((q ∙ ap (after_first is_slash) body_is) i))

  pub reads_plain : list_any is_slash body ≡ false → reading_of bytes ≡ plain_reading minus body
  reads_plain none = reading-plain bytes (ap (list_any is_slash) (sym body_is) ∙ none) ∙ sym (ap₂ plain_reading minus_is body_is)

-- the parts of a text with no slash, as the code cuts it
module _ (minus found exponent_minus : Bool) (bytes outer tail whole point digits : List ℕ)
    (found_is : found ≡ list_any is_e bytes) (outer_is : outer ≡ before_first is_e bytes) (tail_is : tail ≡ after_first is_e bytes)
    (whole_is : whole ≡ before_first is_point outer) (point_is : point ≡ after_first is_point outer)
    (digits_is : digits ≡ without_sign tail) (sign_is : exponent_minus ≡ is_minus tail) where
  whole_same : whole ≡ whole_digits bytes
  whole_same = whole_is ∙ ap (before_first is_point) outer_is

  point_same : point ≡ point_digits bytes
  point_same = point_is ∙ ap (after_first is_point) outer_is

  mantissa_same : whole ++ point ≡ mantissa bytes
  mantissa_same = ap₂ ◌++◌ whole_same point_same

  digits_same : digits ≡ without_sign (exponent_text bytes)
  digits_same = digits_is ∙ ap without_sign tail_is

  decimal_test : are_digits (whole ++ point) ≡ true → (if found then are_digits digits else true) ≡ true → is_decimal bytes ≡ true
  decimal_test h k = ap₂ (λ a b. a && b) (ap are_digits (sym mantissa_same) ∙ h) ((λ i. if sym found_is i then are_digits (sym digits_same i) else true) ∙ k)

  exponent_same : with_sign exponent_minus (value_of digits) ≡ exponent (exponent_text bytes)
  exponent_same = ap₂ (λ s n. with_sign s n) (sign_is ∙ ap is_minus tail_is) (ap value_of digits_same)

  pub reads_decimal : are_digits (whole ++ point) ≡ true → (if found then are_digits digits else true) ≡ true
      → plain_reading minus bytes ≡ decimal_reading minus (coefficient_of (whole ++ point)) (power_of (with_sign exponent_minus (value_of digits)) point (whole ++ point))
  reads_decimal h k =
      plain-decimal minus bytes (decimal_test h k)
      ∙ sym (λ i. decimal_reading minus (coefficient_of (mantissa_same i)) (power_of (exponent_same i) (point_same i) (mantissa_same i)))

  pub mantissa_digits : are_digits (whole ++ point) ≡ true → (list_all is_digit whole ≡ true) × (list_all is_digit point ≡ true)
  mantissa_digits h = all_parts is_digit whole point ((both (not (is_empty (whole ++ point))) (list_all is_digit (whole ++ point)) h).1)

  pub exponent_digits : (if found then are_digits digits else true) ≡ true → list_all is_digit digits ≡ true
  exponent_digits k = at found refl
    where
      at : (b : Bool) → found ≡ b → list_all is_digit digits ≡ true
      at true e = (both (not (is_empty digits)) (list_all is_digit digits) (ap (λ b. if b then are_digits digits else true) (sym e) ∙ k)).1
      at false e = ap (list_all is_digit) (digits_is ∙ ap without_sign (tail_is ∙ after_none is_e bytes (sym found_is ∙ e)))
