-- Which words spell whole numbers of 64 bits, as `clap` and `parse` read them.
use Rattle.std.proofs.Common.{◌≡◌, ℕ, ◌<◌, ◌≤◌, ◌^◌, Bool, true, false, List, [], ◌∷◌, refl, sym, subst, ap, ◌∙◌, arith, if◌then◌else◌, Result, Ok, Err}
use Rattle.std.specs.Prelude.{decimal, drop}
use Rattle.std.specs.Str.Parse.{IsNumeral, ParsesUnsigned, digits_value, without_leading_plus}
use Rattle.std.proofs.lemmas.Bool.{ne_eqb}
use Rattle.std.proofs.lemmas.Fmt.{decimal_is_IsNumeral_wide}
use Rattle.std.proofs.lemmas.Str.Parse.{digit_from_value}
use Rattle.clap.specs.ValueTests.{accepts, is_unsigned_in}
use Rattle.clap.specs.declared.builder.value_parser.ValueParser.TheVariants.{Unsigned}
use Rattle.clap.proofs.ValueTestLemmas.{accepts-Accepts, Accepts-accepts}
use Rattle.program_words.specs.Forms.{spelled_or_zero}
use Rattle.program_words.specs.Laws.{IsPlainWord}

-- ---- what `parse` answers

abbrev by_test : Bool → List ℕ → ℕ
by_test b text = if b then digits_value 10 (without_leading_plus text) else 0

pub spelled : {E : Type 0} (text : List ℕ) (r : Result ℕ E) (n : ℕ) → r ≡ Ok n → ParsesUnsigned 64 10 text r → n ≡ spelled_or_zero text
spelled text r n is h =
    let p = subst (λ q. ParsesUnsigned 64 10 text q) is h in
    let value : digits_value 10 (without_leading_plus text) ≡ n = sym p.1 in
    let test : is_unsigned_in 0 18446744073709551615 text ≡ true = Accepts-accepts false (Unsigned 0 18446744073709551615) text (p.0.0, p.0.1, omega arith, omega (arith, p.0.1)) in
    p.1 ∙ sym (ap (λ b. by_test b text) test)

pub unspelled : {E : Type 0} (text : List ℕ) (r : Result ℕ E) {e : E} → r ≡ Err e → ParsesUnsigned 64 10 text r → 0 ≡ spelled_or_zero text
unspelled {E} text r {e} is h = by (is_unsigned_in 0 18446744073709551615 text) refl
  where
    by : (b : Bool) → is_unsigned_in 0 18446744073709551615 text ≡ b → 0 ≡ by_test b text
    by true test =
        let reads = accepts-Accepts false (Unsigned 0 18446744073709551615) text test in
        absurd ((subst (λ q. ParsesUnsigned 64 10 text q) is h) (reads.0, reads.1))
    by false test = refl

-- ---- a number in decimal digits

no_plus : (ds : List ℕ) → IsNumeral 10 ds → without_leading_plus ds ≡ ds
no_plus [] h = refl
no_plus (d ∷ ds) h = ap (λ (b : Bool). drop (if b then 1 else 0) (d ∷ ds)) (ne_eqb d 43 (λ e. omega (arith, digit_from_value d h.1.0)))

no_minus : (ds : List ℕ) → IsNumeral 10 ds → IsPlainWord ds
no_minus [] h = absurd (omega (arith, h.0))
no_minus (d ∷ ds) h = λ e. omega (arith, digit_from_value d h.1.0)

pub decimal-plain : (n : ℕ) → n < 2 ^ 64 → IsPlainWord (decimal n)
decimal-plain n small = no_minus (decimal n) (decimal_is_IsNumeral_wide n (omega arith)).0

pub decimal-accepted : (low high n : ℕ) → low ≤ n → n ≤ high → n < 2 ^ 64 → accepts false (Unsigned low high) (decimal n) ≡ true
decimal-accepted low high n least most small =
    let numeral = (decimal_is_IsNumeral_wide n (omega arith)).0 in
    let value : digits_value 10 (without_leading_plus (decimal n)) ≡ n = ap (digits_value 10) (no_plus (decimal n) numeral) ∙ (decimal_is_IsNumeral_wide n (omega arith)).1 in
    Accepts-accepts false (Unsigned low high) (decimal n) (subst (IsNumeral 10) (sym (no_plus (decimal n) numeral)) numeral, omega (arith, value, small), omega (arith, value, least), omega (arith, value, most))

pub decimal-spelled : (n : ℕ) → n < 2 ^ 64 → spelled_or_zero (decimal n) ≡ n
decimal-spelled n small =
    let numeral = (decimal_is_IsNumeral_wide n (omega arith)).0 in
    ap (λ b. by_test b (decimal n)) (decimal-accepted 0 18446744073709551615 n (omega arith) (omega (arith, small)) small)
    ∙ ap (digits_value 10) (no_plus (decimal n) numeral) ∙ (decimal_is_IsNumeral_wide n (omega arith)).1
