-- What is printed is read back, so two numbers with one text are one number.
use Rattle.std.specs.Prelude.{◌≡◌, ◌≢◌, ℕ, suc, ◌+◌, ◌-◌, ◌*◌, ◌/◌, ◌%◌, ◌^◌, ◌<◌, ◌≤◌, ◌==◌, ◌&&◌, ◌||◌, not, if◌then◌else◌, Bool, true, false, nat_lt, nat_le, List, [], ◌∷◌, ◌++◌, length, ℤ, pos, negsuc, unsigned_abs}
use Rattle.std.specs.Fmt.{decimal, signed_decimal}
use Rattle.std.specs.List.{list_all, list_any}
use Rattle.std.proofs.Common.{refl, sym, ap, ap₂, subst, ◌∙◌, arith, true≢false}
use Rattle.std.proofs.lemmas.Bool.Decides.{nat_tests, Decides-eqb}
use Rattle.std.proofs.Math.Nat.{pow-succ', one-le-pow, pow-le-pow_right, mul-le-mul_left, mul-le-mul_right}
use Rattle.std.proofs.lemmas.Fmt.{decimal_by_steps_wide}
use Rattle.std.proofs.lemmas.Int.{ints, by_lt_z}
use Rattle.frac128.specs.Rational.{ℚ, den, int, reduced, ◌/ℚ◌, neg_ℚ, IsWhole}
use Rattle.frac128.proofs.Integers.{int-num}
use Rattle.frac128.specs.Lowest.{reduced_self, reduced-neg_ℚ}
use Rattle.frac128.specs.RationalRing.{int-neg_ℤ}
use Rattle.frac128.specs.Range.{Fits, largest}
use Rattle.frac128.specs.Printing.{printed}
use Rattle.frac_text.specs.Spelling.{Number, Wide, NoNumber, reading_of, value_behind, scaled, is_quotient, is_digit, are_digits, is_empty, is_minus, without_sign, value_of, without_zeros, is_slash, is_e, is_point, signed, slash_reading, plain_reading, decimal_reading, scaled_reading, quotient_reading, coefficient_of}
use Rattle.frac_text.proofs.Cuts.{both, all_joined, after_none, cut_front, cut_back, cut_found, before_none}
use Rattle.frac_text.proofs.DigitTerms.{empty_is, value_of-last}
use Rattle.frac_text.proofs.SpellingTerms.{reads_slash, reads_plain, reads_decimal}
use Rattle.frac128.proofs.Printed.{printed-whole, printed-fraction}
use Rattle.frac128.proofs.Terms.{quotient-/ℚ}

-- digits, one at least, and their number
record Are (n : ℕ) (digits : List ℕ) : Type 0 where
  all : list_all is_digit digits ≡ true
  some : is_empty digits ≡ false
  value : value_of digits ≡ n

digit_test : (n : ℕ) → n < 10 → is_digit (48 + n) ≡ true
digit_test n h = grind (arith, nat_tests)

decimal_are : (n : ℕ) → n < 10 ^ 64 → Are n (decimal n)
decimal_are n h = decimal_by_steps_wide Are one more n h
  where
    one : (n : ℕ) → n < 10 → Are n ((48 + n) ∷ [])
    one n h = record { all = ap (λ b. b && true) (digit_test n h); some = refl; value = omega arith }

    more : (n : ℕ) (ds : List ℕ) → 10 ≤ n → Are (n / 10) ds → Are n (ds ++ ((48 + n % 10) ∷ []))
    more n ds h are = record {
      all = all_joined is_digit ds ((48 + n % 10) ∷ []) are.all (ap (λ b. b && true) (digit_test (n % 10) (omega arith)));
      some = kept ds;
      value = value_of-last ds (48 + n % 10) ∙ (let v = are.value in omega arith);
    }
      where
        kept : (ds : List ℕ) → is_empty (ds ++ ((48 + n % 10) ∷ [])) ≡ false
        kept [] = refl
        kept (x ∷ xs) = refl

-- ---- what no run of digits has

no_mark : (p : ℕ → Bool) → ((byte : ℕ) → is_digit byte ≡ true → p byte ≡ false) → (digits : List ℕ) → list_all is_digit digits ≡ true → list_any p digits ≡ false
no_mark p apart [] h = refl
no_mark p apart (digit ∷ digits) h =
    let parts = both (is_digit digit) (list_all is_digit digits) h in
    ap₂ (λ a b. a || b) (apart digit parts.0) (no_mark p apart digits parts.1)

digit_is_no_slash : (byte : ℕ) → is_digit byte ≡ true → is_slash byte ≡ false
digit_is_no_slash byte h = let parts = both (nat_le 48 byte) (nat_le byte 57) h in let low : nat_le 48 byte ≡ true = parts.0 in grind (arith, nat_tests)

digit_is_no_e : (byte : ℕ) → is_digit byte ≡ true → is_e byte ≡ false
digit_is_no_e byte h = let parts = both (nat_le 48 byte) (nat_le byte 57) h in let high : nat_le byte 57 ≡ true = parts.1 in grind (arith, nat_tests)

digit_is_no_point : (byte : ℕ) → is_digit byte ≡ true → is_point byte ≡ false
digit_is_no_point byte h = let parts = both (nat_le 48 byte) (nat_le byte 57) h in let low : nat_le 48 byte ≡ true = parts.0 in grind (arith, nat_tests)

-- digits have no sign, also where more stands behind them
unsigned : (digits more : List ℕ) → list_all is_digit digits ≡ true → is_empty digits ≡ false → (is_minus (digits ++ more) ≡ false) × (without_sign (digits ++ more) ≡ digits ++ more)
unsigned [] more h some = absurd (true≢false some)
unsigned (digit ∷ digits) more h some =
    let parts = both (is_digit digit) (list_all is_digit digits) h in
    let ends = both (nat_le 48 digit) (nat_le digit 57) parts.0 in
    let low : nat_le 48 digit ≡ true = ends.0 in
    let no_plus : (digit == 43) ≡ false = grind (arith, nat_tests) in
    let no_minus : (digit == 45) ≡ false = grind (arith, nat_tests) in
    (no_minus, ap₂ (λ a b. if a || b then digits ++ more else digit ∷ (digits ++ more)) no_plus no_minus)

-- ---- digits alone

-- the number of digits is that without the zeros at their end, times a power of ten for those
zeros_dropped : (front : ℕ) (digits : List ℕ) → value_behind front digits ≡ value_behind front (without_zeros digits) * 10 ^ (length digits - length (without_zeros digits))
zeros_dropped front [] = omega arith
zeros_dropped front (digit ∷ digits) = at (is_empty (without_zeros digits)) (digit == 48) refl refl (zeros_dropped (10 * front + (digit - 48)) digits)
  where
    at : (a b : Bool) → is_empty (without_zeros digits) ≡ a → (digit == 48) ≡ b
        → value_behind (10 * front + (digit - 48)) digits ≡ value_behind (10 * front + (digit - 48)) (without_zeros digits) * 10 ^ (length digits - length (without_zeros digits))
        → value_behind front (digit ∷ digits) ≡ value_behind front (if a && b then [] else digit ∷ without_zeros digits) * 10 ^ (suc (length digits) - length (if a && b then [] else digit ∷ without_zeros digits))
    at true true e f h =
        let nothing : without_zeros digits ≡ [] = empty_is (without_zeros digits) e in
        let zero_digit : digit ≡ 48 = (Decides-eqb digit 48).0 f in
        let here : value_behind (10 * front + (digit - 48)) digits ≡ (10 * front + (digit - 48)) * 10 ^ (length digits - 0) = subst (λ t. value_behind (10 * front + (digit - 48)) digits ≡ value_behind (10 * front + (digit - 48)) t * 10 ^ (length digits - length t)) nothing h in
        let power : 10 ^ suc (length digits) ≡ 10 * 10 ^ length digits = pow-succ' 10 (length digits) in
        let same : length digits - 0 ≡ length digits = omega arith in
        let plain : 10 * front + (digit - 48) ≡ 10 * front = omega arith in
        here ∙ ap₂ (λ v n. v * 10 ^ n) plain same ∙ (let e : 10 * front * 10 ^ length digits ≡ front * (10 * 10 ^ length digits) = omega arith in e) ∙ ap (λ t. front * t) (sym power) ∙ ap (λ n. front * 10 ^ n) (let e : suc (length digits) ≡ suc (length digits) - 0 = omega arith in e)
    at true false e f h = h ∙ ap (λ n. value_behind (10 * front + (digit - 48)) (without_zeros digits) * 10 ^ n) (omega arith)
    at false b e f h = h ∙ ap (λ n. value_behind (10 * front + (digit - 48)) (without_zeros digits) * 10 ^ n) (omega arith)

number_reads : (minus : Bool) (m k n : ℕ) → n ≡ m * 10 ^ k → n ≤ largest → decimal_reading minus m (pos k) ≡ Number (signed minus (int (pos n)))
number_reads minus m k n is small = at (m == 0) refl
  where
    signed_zero : (minus : Bool) → int (pos 0) ≡ signed minus (int (pos 0))
    signed_zero false = refl
    signed_zero true = int-neg_ℤ (pos 0)

    at : (b : Bool) → (m == 0) ≡ b → (if b then Number (int (pos 0)) else scaled_reading minus m (pos k)) ≡ Number (signed minus (int (pos n)))
    at true e =
        let none : m ≡ 0 = (Decides-eqb m 0).0 e in
        let nothing : 0 ≡ n = sym (is ∙ ap (λ t. t * 10 ^ k) none ∙ (let z : 0 * 10 ^ k ≡ 0 = omega arith in z)) in
        ap Number (signed_zero minus ∙ ap (λ t. signed minus (int (pos t))) nothing)
    at false e =
        let some : 0 < m = by_zero m e in
        let power : 1 ≤ 10 ^ k = one-le-pow k 10 (omega arith) in
        let grown : m * 1 ≤ m * 10 ^ k = mul-le-mul_left m power in
        let grown_power : 1 * 10 ^ k ≤ m * 10 ^ k = mul-le-mul_right (10 ^ k) some in
        let short : k ≤ 38 = by_lt_z (pos 38) (pos k) (λ long. absurd (let step : 10 ^ 39 ≤ 10 ^ k = pow-le-pow_right (omega arith) {i = 39} {j = k} (omega (arith, ints)) in omega arith)) (λ h. omega (arith, ints)) in
        let first : nat_lt largest m ≡ false = at_most m largest (omega arith) in
        let second : nat_lt 38 k ≡ false = at_most k 38 short in
        let third : nat_lt largest (m * 10 ^ k) ≡ false = at_most (m * 10 ^ k) largest (omega arith) in
        ap₂ (λ a b. if a || b then Wide (signed minus (scaled m (pos k))) else Number (signed minus (scaled m (pos k)))) first (ap₂ (λ a b. a || b) second third)
        ∙ ap (λ t. Number (signed minus (int (pos t)))) (sym is)
      where
        at_most : (a b : ℕ) → a ≤ b → nat_lt b a ≡ false
        at_most a b h = grind (arith, nat_tests)

        by_zero : (m : ℕ) → (m == 0) ≡ false → 0 < m
        by_zero m e = grind (arith, nat_tests)

nil_right : (xs : List ℕ) → xs ++ [] ≡ xs
nil_right [] = refl
nil_right (x ∷ xs) = ap (λ t. x ∷ t) (nil_right xs)

reads_digits : (minus : Bool) (n : ℕ) (digits : List ℕ) → Are n digits → n ≤ largest → plain_reading minus digits ≡ Number (signed minus (int (pos n)))
reads_digits minus n digits are small =
    let no_e = no_mark is_e digit_is_no_e digits are.all in
    let no_point = no_mark is_point digit_is_no_point digits are.all in
    let test : are_digits (digits ++ []) ≡ true = ap are_digits (nil_right digits) ∙ ap₂ (λ a b. not a && b) are.some are.all in
    let says = reads_decimal minus false false digits digits [] digits [] [] (sym no_e) (sym (before_none is_e digits no_e)) (sym (after_none is_e digits no_e)) (sym (before_none is_point digits no_point)) (sym (after_none is_point digits no_point)) refl refl test refl in
    says
    ∙ ap₂ (decimal_reading minus) (ap coefficient_of (nil_right digits)) (ap (λ t. pos (0 + (length t - length (without_zeros t)))) (nil_right digits) ∙ ap pos (let e : 0 + (length digits - length (without_zeros digits)) ≡ length digits - length (without_zeros digits) = omega arith in e))
    ∙ number_reads minus (value_of (without_zeros digits)) (length digits - length (without_zeros digits)) n (sym are.value ∙ zeros_dropped 0 digits) small

reads_quotient : (minus : Bool) (n d : ℕ) (top bottom : List ℕ) → Are n top → Are d bottom → n ≤ largest → d ≤ largest → d ≢ 0 → slash_reading minus top bottom ≡ Number (signed minus (int (pos n) /ℚ int (pos d)))
reads_quotient minus n d top bottom above below top_small bottom_small some =
    ap (λ b. if b then quotient_reading minus (value_of top) (value_of bottom) else NoNumber) test
    ∙ ap₂ (quotient_reading minus) above.value below.value
    ∙ ap₂ (λ a b. if a || b then Wide (signed minus (int (pos n) /ℚ int (pos d))) else Number (signed minus (int (pos n) /ℚ int (pos d)))) (at_most n top_small) (at_most d bottom_small)
  where
    at_most : (n : ℕ) → n ≤ largest → nat_lt largest n ≡ false
    at_most n h = grind (arith, nat_tests)

    not_zero : (value_of bottom == 0) ≡ false
    not_zero = ap (λ v. v == 0) below.value ∙ at d some
      where
        at : (d : ℕ) → d ≢ 0 → (d == 0) ≡ false
        at d some = grind (arith, nat_tests)

    test : is_quotient top bottom ≡ true
    test = ap₂ (λ a b. a && b) (ap₂ (λ a b. a && b) (ap₂ (λ a b. not a && b) above.some above.all) (ap₂ (λ a b. not a && b) below.some below.all)) (ap not not_zero)

-- ---- what is printed is read back

reads_signed : (z : ℤ) → unsigned_abs z ≤ largest → reading_of (signed_decimal z) ≡ Number (int z)
reads_signed (pos n) h =
    let are = decimal_are n (omega arith) in
    let sign = unsigned (decimal n) [] are.all are.some in
    let same = nil_right (decimal n) in
    let none : list_any is_slash (decimal n) ≡ false = no_mark is_slash digit_is_no_slash (decimal n) are.all in
    reads_plain (decimal n) (decimal n) [] [] false (sym (ap is_minus (sym same) ∙ sign.0)) (sym (ap without_sign (sym same) ∙ sign.1 ∙ same)) none ∙ reads_digits false n (decimal n) are h
reads_signed (negsuc n) h =
    let are = decimal_are (suc n) (omega arith) in
    let none : list_any is_slash (decimal (suc n)) ≡ false = no_mark is_slash digit_is_no_slash (decimal (suc n)) are.all in
    reads_plain (45 ∷ decimal (suc n)) (decimal (suc n)) [] [] true refl refl none ∙ reads_digits true (suc n) (decimal (suc n)) are h ∙ ap Number (sym (int-neg_ℤ (pos (suc n))))

unsigned_quotient : (n b : ℕ) → int (pos n) /ℚ int (pos (suc b)) ≡ reduced (pos n) b
unsigned_quotient n b = sym (quotient-/ℚ (pos n) (pos (suc b)) (pos n) (pos (suc b)) (λ e. omega (arith, ints)) (omega (arith, ints)) refl) ∙ ap (reduced (pos n)) (omega arith)

abbrev is_negative : ℤ → Bool
is_negative (pos n) = false
is_negative (negsuc n) = true

quotient_is : (z : ℤ) (b : ℕ) → signed (is_negative z) (int (pos (unsigned_abs z)) /ℚ int (pos (suc b))) ≡ reduced z b
quotient_is (pos n) b = unsigned_quotient n b
quotient_is (negsuc n) b = ap neg_ℚ (unsigned_quotient (suc n) b) ∙ reduced-neg_ℚ (pos (suc n)) b

reads_parts : (z : ℤ) (d : ℕ) → unsigned_abs z ≤ largest → d ≤ largest → d ≢ 0 → reading_of (signed_decimal z ++ 47 ∷ decimal d) ≡ Number (signed (is_negative z) (int (pos (unsigned_abs z)) /ℚ int (pos d)))
reads_parts (pos n) d h k some =
    let top = decimal_are n (omega arith) in
    let bottom = decimal_are d (omega arith) in
    let sign = unsigned (decimal n) (47 ∷ decimal d) top.all top.some in
    let clean = no_mark is_slash digit_is_no_slash (decimal n) top.all in
    reads_slash (decimal n ++ 47 ∷ decimal d) (decimal n ++ 47 ∷ decimal d) (decimal n) (decimal d) false (sym sign.0) (sym sign.1)
    (sym (cut_front is_slash (decimal n) (decimal d) 47 clean refl)) (sym (cut_back is_slash (decimal n) (decimal d) 47 clean refl)) (cut_found is_slash (decimal n) (decimal d) 47 refl)
    ∙ reads_quotient false n d (decimal n) (decimal d) top bottom h k some
reads_parts (negsuc n) d h k some =
    let top = decimal_are (suc n) (omega arith) in
    let bottom = decimal_are d (omega arith) in
    let clean = no_mark is_slash digit_is_no_slash (decimal (suc n)) top.all in
    reads_slash (45 ∷ (decimal (suc n) ++ 47 ∷ decimal d)) (decimal (suc n) ++ 47 ∷ decimal d) (decimal (suc n)) (decimal d) true refl refl
    (sym (cut_front is_slash (decimal (suc n)) (decimal d) 47 clean refl)) (sym (cut_back is_slash (decimal (suc n)) (decimal d) 47 clean refl)) (cut_found is_slash (decimal (suc n)) (decimal d) 47 refl)
    ∙ reads_quotient true (suc n) d (decimal (suc n)) (decimal d) top bottom h k some

pub reading_of-printed : (x : ℚ) → Fits x → reading_of (printed x) ≡ Number x
reading_of-printed x f = at (den x == 1) refl
  where
    at : (b : Bool) → (den x == 1) ≡ b → reading_of (printed x) ≡ Number x
    at true e = let whole : IsWhole x = (Decides-eqb (den x) 1).0 e in ap reading_of (printed-whole x whole) ∙ reads_signed x.num f.numerator ∙ ap Number (sym (int-num x whole))
    at false e =
        ap reading_of (printed-fraction x (λ whole. true≢false (sym ((Decides-eqb (den x) 1).1 whole) ∙ e)))
        ∙ reads_parts x.num (den x) f.numerator f.denominator (λ none. omega arith)
        ∙ ap Number (quotient_is x.num x.below ∙ reduced_self x)

pub printed_injective : (x y : ℚ) → Fits x → Fits y → printed x ≡ printed y → x ≡ y
printed_injective x y f g e = number_same (sym (reading_of-printed x f) ∙ ap reading_of e ∙ reading_of-printed y g)
  where
    number_same : Number x ≡ Number y → x ≡ y
    number_same e = cc
