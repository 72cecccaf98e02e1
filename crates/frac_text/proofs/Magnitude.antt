-- Whether a magnitude is 10^20 or more, by its digits; and where the number of a sign and a magnitude stands.
use Rattle.std.specs.Prelude.{◌≡◌, ◌≢◌, ◌↔◌, ℕ, suc, ◌+◌, ◌-◌, ◌*◌, ◌^◌, ◌<◌, ◌≤◌, List, [], ◌∷◌, ◌++◌, length, ℤ, pos, negsuc, ◌+ℤ◌, neg_ℤ, ◌≤ℤ◌, ◌<ℤ◌, int_le, Bool, true, false, if◌then◌else◌, ◌==◌, ◌||◌, nat_lt, Ok, Err}
use Rattle.std.specs.Bool.{Decides, one_answer}
use Rattle.std.specs.List.{list_all}
use Rattle.std.specs.Ordering.{nat_cmp, is_ge}
use Rattle.std.proofs.lemmas.Bool.Decides.{nat_tests}
use Rattle.frac_text.proofs.Cuts.{all_parts}
use Rattle.std.proofs.Common.{refl, sym, ap, ap₂, subst, ◌∙◌, arith, mul-pos, take, drop, length-drop}
use Rattle.std.proofs.Math.Nat.{pow-le-pow_right, mul-le-mul_right, mul-lt-mul_of_pos_right, one-le-pow}
use Rattle.std.proofs.Math.ListN.{take-append-drop}
use Rattle.std.proofs.lemmas.Nat.{pow-add}
use Rattle.std.proofs.lemmas.Int.{ints, by_lt_z}
use Rattle.frac128.specs.Rational.{ℚ, int, ◌/ℚ◌, neg_ℚ, ◌≤ℚ◌, ◌<ℚ◌, rational_le}
use Rattle.frac128.proofs.Integers.{int-≤ℚ-int}
use Rattle.frac128.proofs.Comparison.{rational_le-decides}
use Rattle.frac128.specs.RationalRing.{int-*ℤ, int-neg_ℤ, reads_ℚ}
use Rattle.frac128.specs.RationalOrder.{linear, positive_num, ≤ℚ_trans}
use Rattle.frac128.proofs.Division.{≤ℚ-/ℚ}
use Rattle.frac_text.specs.Spelling.{scaled, signed, is_digit, value_of, value_behind, Number, Wide, decimal_reading, quotient_reading, scaled_reading, is_wide_power}
use Rattle.frac128.specs.Range.{largest}
use Rattle.frac_text.specs.Parsing.{parsed}
use Rattle.frac_text.specs.declared.parsing.NumFault.{NumFault}
use Rattle.frac_text.specs.declared.numeral.Side.{Side}
use Rattle.frac_text.specs.declared.numeral.Side.TheVariants.{Above, Between, Below}
use Rattle.frac_text.specs.declared.numeral.Numeral.TheVariants.{Wide as WideRead}
use Rattle.frac_text.specs.Sides.{numeral_of, side_of}
use Rattle.frac_text.specs.private.Sides.{HasDigits, side_from, reaches}
use Rattle.frac_text.proofs.DigitTerms.{value_behind-append, value_behind-between}

-- a number of k digits is at least 10^n exactly where n is less than k
pub from_digits : (m k n : ℕ) → HasDigits m k → m ≢ 0 → (10 ^ n ≤ m) ↔ (n < k)
from_digits m k n digits some = (to, from)
  where
    to : 10 ^ n ≤ m → n < k
    to h = by_lt_z (pos n) (pos k) (λ less. omega (arith, ints)) (λ more. absurd (let step : 10 ^ k ≤ 10 ^ n = pow-le-pow_right (omega arith) (omega (arith, ints)) in let below = digits.below in omega arith))

    from : n < k → 10 ^ n ≤ m
    from h = let least = digits.above some in let step : 10 ^ n ≤ 10 ^ (k - 1) = pow-le-pow_right (omega arith) (omega arith) in omega arith

-- times a power of ten it has that many digits more
more_digits : (m k e : ℕ) → HasDigits m k → m ≢ 0 → HasDigits (m * 10 ^ e) (k + e)
more_digits m k e digits some =
    let least = digits.above some in
    let some_power : 0 < 10 ^ e = one-le-pow e 10 (omega arith) in
    let high : m * 10 ^ e < 10 ^ k * 10 ^ e = mul-lt-mul_of_pos_right digits.below some_power in
    let low : 10 ^ (k - 1) * 10 ^ e ≤ m * 10 ^ e = mul-le-mul_right (10 ^ e) least.1 in
    let same : k + e - 1 ≡ k - 1 + e = omega arith in
    record {
      below = rw pow-add high;
      above = λ _. (omega arith, subst (λ n. 10 ^ n ≤ m * 10 ^ e) (sym same) (rw pow-add low));
    }

int_positive : (d : ℕ) → 0 < d → int (pos 0) <ℚ int (pos d)
unfolding int
int_positive d some = (positive_num (int (pos d))).1 (omega (arith, ints))

-- z is at most n / d exactly where z * d is at most n
pub int-≤ℚ-quotient : (a n d : ℕ) → 0 < d → (int (pos a) ≤ℚ int (pos n) /ℚ int (pos d)) ↔ (a * d ≤ n)
int-≤ℚ-quotient a n d some = (to, from)
  where
    above : int (pos 0) <ℚ int (pos d)
    above = int_positive d some

    to : int (pos a) ≤ℚ int (pos n) /ℚ int (pos d) → a * d ≤ n
    to h = let k = (int-≤ℚ-int (pos (a * d)) (pos n)).0 (subst (λ t. t ≤ℚ int (pos n)) (sym (int-*ℤ (pos a) (pos d))) ((≤ℚ-/ℚ (int (pos n)) (int (pos d)) (int (pos a)) above).0 h)) in omega (arith, ints)

    from : a * d ≤ n → int (pos a) ≤ℚ int (pos n) /ℚ int (pos d)
    from h = (≤ℚ-/ℚ (int (pos n)) (int (pos d)) (int (pos a)) above).1 (subst (λ t. t ≤ℚ int (pos n)) (int-*ℤ (pos a) (pos d)) ((int-≤ℚ-int (pos (a * d)) (pos n)).1 (omega (arith, ints))))

pub scaled_reaches : (m k : ℕ) (e : ℤ) → HasDigits m k → m ≢ 0 → (int (pos (10 ^ 20)) ≤ℚ scaled m e) ↔ (pos 21 ≤ℤ (pos k +ℤ e))
scaled_reaches m k (pos e) digits some =
    let here = int-≤ℚ-int (pos (10 ^ 20)) (pos (m * 10 ^ e)) in
    let some_power : 0 < 10 ^ e = one-le-pow e 10 (omega arith) in
    let some_product : m * 10 ^ e ≢ 0 = (let above : 0 < m * 10 ^ e = mul-pos (omega arith) some_power in λ none. omega arith) in
    let count = from_digits (m * 10 ^ e) (k + e) 20 (more_digits m k e digits some) some_product in
    ((λ h. let order = here.0 h in let n = count.0 (omega (arith, ints)) in omega (arith, ints)), (λ h. here.1 (let n = count.1 (omega (arith, ints)) in omega (arith, ints))))
scaled_reaches m k (negsuc e) digits some =
    let some_power : 0 < 10 ^ suc e = one-le-pow (suc e) 10 (omega arith) in
    let here = int-≤ℚ-quotient (10 ^ 20) m (10 ^ suc e) some_power in
    let count = from_digits m k (20 + suc e) digits some in
    let power : 10 ^ (20 + suc e) ≡ 10 ^ 20 * 10 ^ suc e = pow-add 10 20 (suc e) in
    ((λ h. let order = here.0 h in let n = count.0 (omega arith) in omega (arith, ints)), (λ h. here.1 (let n = count.1 (omega (arith, ints)) in omega arith)))

-- ---- a quotient, by its top without the last 20 digits

pub quotient_reaches_by : (front back : List ℕ) (d : ℕ) → list_all is_digit back ≡ true → length back ≡ 20 → (10 ^ 20 * d ≤ value_of (front ++ back)) ↔ (d ≤ value_of front)
quotient_reaches_by front back d h long = (to, from)
  where
    between : (value_of front * 10 ^ 20 ≤ value_of (front ++ back)) × (value_of (front ++ back) < (value_of front + 1) * 10 ^ 20)
    between = subst (λ v. (value_of front * 10 ^ 20 ≤ v) × (v < (value_of front + 1) * 10 ^ 20)) (sym (value_behind-append 0 front back))
        (subst (λ n. (value_of front * 10 ^ n ≤ value_behind (value_of front) back) × (value_behind (value_of front) back < (value_of front + 1) * 10 ^ n)) long (value_behind-between (value_of front) back h))

    to : 10 ^ 20 * d ≤ value_of (front ++ back) → d ≤ value_of front
    to k = let b = between in omega arith

    from : d ≤ value_of front → 10 ^ 20 * d ≤ value_of (front ++ back)
    from k = let b = between in omega arith

pub quotient_reaches_short : (digits : List ℕ) (d : ℕ) → list_all is_digit digits ≡ true → length digits < 20 → d ≢ 0 → ¬ (10 ^ 20 * d ≤ value_of digits)
quotient_reaches_short digits d h short some k =
    let size = value_behind-between 0 digits h in
    let power : 10 ^ length digits ≤ 10 ^ 20 = pow-le-pow_right (omega arith) {j = 20} (omega arith) in
    let more : 1 ≤ d = omega arith in
    omega (arith, size.1)

-- ---- the sign

zero_is_low : ¬ (int (pos 0) ≤ℚ neg_ℚ (int (pos (10 ^ 20))))
zero_is_low h = let k = (int-≤ℚ-int (pos 0) (neg_ℤ (pos (10 ^ 20)))).0 (subst (λ t. int (pos 0) ≤ℚ t) (sym (int-neg_ℤ (pos (10 ^ 20)))) h) in absurd (omega (arith, ints))

zero_is_not_high : ¬ (int (pos (10 ^ 20)) ≤ℚ int (pos 0))
zero_is_not_high h = let k = (int-≤ℚ-int (pos (10 ^ 20)) (pos 0)).0 h in absurd (omega (arith, ints))

not_le : (x y : ℚ) → ¬ (x ≤ℚ y) → rational_le x y ≡ false
not_le x y apart = at (rational_le x y) refl
  where
    at : (b : Bool) → rational_le x y ≡ b → b ≡ false
    at true e = absurd (apart ((rational_le-decides x y).0 e))
    at false e = refl

pub side_signed : (minus : Bool) (x : ℚ) → int (pos 0) ≤ℚ x → side_of (signed minus x) ≡ side_from minus (reaches x)
side_signed false x h =
    ap (λ b. if reaches x then Above else if b then Below else Between) (not_le x (neg_ℚ (int (pos (10 ^ 20)))) (λ k. zero_is_low (≤ℚ_trans h k)))
side_signed true x h =
    ap₂ (λ a b. if a then Above else if b then Below else Between) (not_le (int (pos (10 ^ 20))) (neg_ℚ x) (λ k. zero_is_not_high (≤ℚ_trans k low)))
    (one_answer _ _ turned (rational_le-decides (int (pos (10 ^ 20))) x))
  where
    low : neg_ℚ x ≤ℚ int (pos 0)
    low = linear (x ∷ []) h (search reads_ℚ) tt

    turned : Decides (rational_le (neg_ℚ x) (neg_ℚ (int (pos (10 ^ 20))))) (int (pos (10 ^ 20)) ≤ℚ x)
    turned =
        let test = rational_le-decides (neg_ℚ x) (neg_ℚ (int (pos (10 ^ 20)))) in
        ((λ e. linear (x ∷ []) (test.0 e) (search reads_ℚ) tt), (λ k. test.1 (linear (x ∷ []) k (search reads_ℚ) tt)))

-- ---- what is read is at least 0 but for its sign

pub zero-≤ℚ-quotient : (n d : ℕ) → 0 < d → int (pos 0) ≤ℚ int (pos n) /ℚ int (pos d)
zero-≤ℚ-quotient n d some = (int-≤ℚ-quotient 0 n d some).1 (omega arith)

pub zero-≤ℚ-scaled : (m : ℕ) (e : ℤ) → int (pos 0) ≤ℚ scaled m e
zero-≤ℚ-scaled m (pos e) = (int-≤ℚ-int (pos 0) (pos (m * 10 ^ e))).1 (omega (arith, ints))
zero-≤ℚ-scaled m (negsuc e) = zero-≤ℚ-quotient m (10 ^ suc e) (one-le-pow (suc e) 10 (omega arith))

-- ---- a number that is refused is too wide, and stands where its magnitude and its sign say

refused_scaled : (wide : Bool) (x : ℚ) (fault : NumFault) → Err fault ≡ parsed (if wide then Wide x else Number x) → numeral_of (if wide then Wide x else Number x) ≡ WideRead (side_of x)
refused_scaled true x fault e = refl
refused_scaled false x fault e = absurd (err_is_no_ok e)
  where
    err_is_no_ok : Err fault ≡ Ok x → ⊥
    err_is_no_ok e = cc

pub refused_decimal : (minus : Bool) (m : ℕ) (e : ℤ) (fault : NumFault) (side : Side) → side ≡ side_from minus (reaches (scaled m e)) → Err fault ≡ parsed (decimal_reading minus m e) → WideRead side ≡ numeral_of (decimal_reading minus m e)
refused_decimal minus m e fault side is refused = at (m == 0) refused
  where
    at : (b : Bool) → Err fault ≡ parsed (if b then Number (int (pos 0)) else scaled_reading minus m e) → WideRead side ≡ numeral_of (if b then Number (int (pos 0)) else scaled_reading minus m e)
    at true k = absurd (err_is_no_ok k)
      where
        err_is_no_ok : Err fault ≡ Ok (int (pos 0)) → ⊥
        err_is_no_ok e = cc
    at false k =
        ap WideRead (is ∙ sym (side_signed minus (scaled m e) (zero-≤ℚ-scaled m e)))
        ∙ sym (refused_scaled (nat_lt largest m || is_wide_power m e) (signed minus (scaled m e)) fault k)

pub refused_quotient : (minus : Bool) (n d : ℕ) (fault : NumFault) (side : Side) → d ≢ 0 → side ≡ side_from minus (reaches (int (pos n) /ℚ int (pos d))) → Err fault ≡ parsed (quotient_reading minus n d) → WideRead side ≡ numeral_of (quotient_reading minus n d)
refused_quotient minus n d fault side some is refused =
    ap WideRead (is ∙ sym (side_signed minus (int (pos n) /ℚ int (pos d)) (zero-≤ℚ-quotient n d (omega arith))))
    ∙ sym (refused_scaled (nat_lt largest n || nat_lt largest d) (signed minus (int (pos n) /ℚ int (pos d))) fault refused)

-- ---- what the code tests

pub int_le-decides : (m n : ℤ) → Decides (int_le m n) (m ≤ℤ n)
int_le-decides m n = ((λ e. omega (arith, ints)), (λ h. let e : true ≡ int_le m n = omega (arith, ints) in sym e))

pub is_ge-decides_ℕ : (a b : ℕ) → Decides (is_ge (nat_cmp a b)) (b ≤ a)
is_ge-decides_ℕ a b = grind (arith, nat_tests)

pub quotient_place : (top : List ℕ) (d : ℕ) → list_all is_digit top ≡ true → d ≢ 0 → (10 ^ 20 * d ≤ value_of top) ↔ (d ≤ value_of (take (length top - 20) top))
quotient_place top d h some = by_lt_z (pos (length top)) (pos 20) short long
  where
    short : pos (length top) <ℤ pos 20 → (10 ^ 20 * d ≤ value_of top) ↔ (d ≤ value_of (take (length top - 20) top))
    short less =
        let nothing : length top - 20 ≡ 0 = omega (arith, ints) in (
          (λ k. absurd (quotient_reaches_short top d h (omega (arith, ints)) some k)),
          (λ k. absurd (let none : d ≤ value_of (take 0 top) = subst (λ n. d ≤ value_of (take n top)) nothing k in omega arith)),
        )

    long : pos 20 ≤ℤ pos (length top) → (10 ^ 20 * d ≤ value_of top) ↔ (d ≤ value_of (take (length top - 20) top))
    long more =
        let whole = take-append-drop (length top - 20) top in
        let digits = all_parts is_digit (take (length top - 20) top) (drop (length top - 20) top) (ap (list_all is_digit) whole ∙ h) in
        let twenty : length (drop (length top - 20) top) ≡ 20 = length-drop (length top - 20) top ∙ omega (arith, ints) in
        subst (λ t. (10 ^ 20 * d ≤ value_of t) ↔ (d ≤ value_of (take (length top - 20) top))) whole (quotient_reaches_by (take (length top - 20) top) (drop (length top - 20) top) d digits.1 twenty)

pub quotient_test : (top bottom : List ℕ) (reached : Bool) → list_all is_digit top ≡ true → value_of bottom ≢ 0 → reached ≡ is_ge (nat_cmp (value_of (take (length top - 20) top)) (value_of bottom))
    → reached ≡ reaches (int (pos (value_of top)) /ℚ int (pos (value_of bottom)))
quotient_test top bottom reached h some is =
    let order = is_ge-decides_ℕ (value_of (take (length top - 20) top)) (value_of bottom) in
    let place = quotient_place top (value_of bottom) h some in
    let test = int-≤ℚ-quotient (10 ^ 20) (value_of top) (value_of bottom) (omega arith) in
    is ∙ one_answer _ _ ((λ t. test.1 (place.1 (order.0 t))), (λ k. order.1 (place.0 (test.0 k)))) (rational_le-decides (int (pos (10 ^ 20))) (int (pos (value_of top)) /ℚ int (pos (value_of bottom))))
