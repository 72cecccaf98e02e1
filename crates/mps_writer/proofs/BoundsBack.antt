-- The lines of BOUNDS pass, and state a column's bounds: its lower one or that there is none, then the same of the upper one.
use Rattle.std.proofs.Common.{◌≡◌, ℕ, suc, ◌+◌, ◌%◌, ◌^◌, ◌-◌, ◌<◌, ◌≤◌, Bool, true, false, not, List, [], ◌∷◌, ◌++◌, length, refl, sym, subst, ◌∙◌, ap, pos, arith}
use Rattle.std.specs.Prelude.{if◌then◌else◌, None, Some, Option, Ok, codes, ℤ, negsuc, ◌==◌, bytes_eq, map, nat_le}
use Rattle.std.specs.Fmt.{decimal, signed_decimal}
use Rattle.std.proofs.lemmas.Bool.{le-ltb, not_from_true, false_from_ne_true, or_from, and_left}
use Rattle.std.proofs.lemmas.Bool.Decides.{nat_tests, Decides-eqb}
use Rattle.std.proofs.lemmas.Fmt.{decimal_by_steps_wide}
use Rattle.frac128.specs.Rational.{ℚ, den, neg_ℚ, rational_le, IsWhole}
use Rattle.frac128.proofs.Comparison.{rational_le-decides}
use Rattle.frac128.specs.RationalOrder.{not_both_ℚ}
use Rattle.frac128.specs.Range.{Fits, IsNarrow}
use Rattle.frac128.proofs.Printed.{printed-whole, printed-fraction}
use Rattle.frac128.specs.Printing.{printed}
use Rattle.frac_text.specs.Sides.{far, numeral_of}
use Rattle.frac_text.specs.declared.numeral.Side.TheVariants.{Above, Between, Below}
use Rattle.frac_text.specs.Spelling.{reading_of, is_minus, without_sign}
use Rattle.frac_text.proofs.PrintedReads.{reading_of-printed}
use Rattle.mps_fields.specs.Words.{is_key, upper_case, line_kind}
use Rattle.mps_fields.specs.Numbers.{limit_beside, limit_at, limit_read, infinite, limit_of, limit_or_plus, limit, is_infinite_word, is_not_number, is_too_wide, is_misplaced}
use Rattle.mps_sections.specs.Statements.{StatedModel, is_column}
use Rattle.mps_sections.specs.Faults.{least, tests_of, bound_tests, code_in}
use Rattle.mps_fields.specs.Fields.{is_long_name}
use Rattle.mps_sections.specs.Shown.{after_kind, after}
use Rattle.mps_fields.specs.declared.numbers.Limit.{Limit}
use Rattle.mps_fields.specs.declared.numbers.Limit.TheVariants.{Finite}
use Rattle.mps_fields.specs.declared.words.Section.TheVariants.{Bounds}
use Rattle.mps_fields.specs.declared.words.BoundKind.{BoundKind}
use Rattle.mps_fields.specs.declared.words.BoundKind.TheVariants.{Lower, Upper, NoLower, NoUpper}
use Rattle.mps_sections.specs.declared.statements.BoundLine.{BoundLine}
use Rattle.mps_writer.specs.Canonical.{lower_line, upper_line}
use Rattle.mps_writer.specs.Writable.{IsNotFar}
use Rattle.mps_writer.proofs.RecordLaws.{entry_of}
use Rattle.mps_writer.proofs.PutLaws.{nil_right}
use Rattle.mps_writer.proofs.RowsBack.{none_from}

-- ---- limits

limit_near : (x : ℚ) → IsNotFar x → limit_at x ≡ Finite x
limit_near x near =
    ap (λ b. limit_beside (if b then Above else if rational_le x (neg_ℚ far) then Below else Between) x)
    (false_from_ne_true (rational_le far x) (λ e. not_both_ℚ ((rational_le-decides far x).0 e) near.below))
    ∙ ap (λ b. limit_beside (if b then Below else Between) x) (false_from_ne_true (rational_le x (neg_ℚ far)) (λ e. not_both_ℚ ((rational_le-decides x (neg_ℚ far)).0 e) near.above))

-- ---- what is printed is no word for infinity: behind a sign it begins with a digit, and those with a letter

-- what begins with a digit
Digital : List ℕ → Type 0
Digital [] = ⊥
Digital (byte ∷ bytes) = (48 ≤ byte) × (byte ≤ 57)

digital_append : (a b : List ℕ) → Digital a → Digital (a ++ b)
unfolding Digital
digital_append [] b h = absurd h
digital_append (byte ∷ a) b h = h

decimal_digital : (n : ℕ) → n < 10 ^ 64 → Digital (decimal n)
unfolding Digital
decimal_digital n h = decimal_by_steps_wide (λ m ds. Digital ds) (λ m l. (omega arith, omega (arith, l))) (λ m ds l d. digital_append ds ((48 + m % 10) ∷ []) d) n h

no_infinity : (bytes : List ℕ) → Digital bytes → (is_key (codes "INF") bytes ≡ false) × (is_key (codes "INFINITY") bytes ≡ false)
unfolding Digital is_key
no_infinity [] h = absurd h
no_infinity (byte ∷ bytes) h =
    let low = h.0 in
    let high = h.1 in
    let small : upper_case byte ≡ byte = ap (λ b. if b then byte - 32 else byte) (and_left (nat_le 97 byte) (nat_le byte 122) (grind (arith, nat_tests))) in
    let digit : (byte == 73) ≡ false = grind (arith, nat_tests) in
    let first : (upper_case byte == 73) ≡ false = ap (λ b. b == 73) small ∙ digit in (
      and_left (upper_case byte == 73) (bytes_eq (map upper_case bytes) (codes "NF")) first,
      and_left (upper_case byte == 73) (bytes_eq (map upper_case bytes) (codes "NFINITY")) first,
    )

unsigned : (bytes : List ℕ) → Digital bytes → without_sign bytes ≡ bytes
unfolding Digital
unsigned [] h = absurd h
unsigned (byte ∷ bytes) h = let low = h.0 in let high = h.1 in ap (λ b. if b then bytes else byte ∷ bytes) (or_from (byte == 43) (byte == 45) (grind (arith, nat_tests)) (grind (arith, nat_tests)))

behind_sign : (v : ℤ) (rest : List ℕ) → IsNarrow v → Digital (without_sign (signed_decimal v ++ rest))
behind_sign (pos n) rest h = let d = digital_append (decimal n) rest (decimal_digital n (omega (arith, h))) in subst Digital (sym (unsigned (decimal n ++ rest) d)) d
behind_sign (negsuc n) rest h = digital_append (decimal (suc n)) rest (decimal_digital (suc n) (omega (arith, h)))

pub printed_finite : (x : ℚ) → Fits x → is_infinite_word (printed x) ≡ false
printed_finite x fits = at (den x == 1) refl
  where
    none : (bytes : List ℕ) → Digital (without_sign bytes) → is_infinite_word bytes ≡ false
    none bytes d = let p = no_infinity (without_sign bytes) d in or_from (is_key (codes "INF") (without_sign bytes)) (is_key (codes "INFINITY") (without_sign bytes)) p.0 p.1

    at : (b : Bool) → (den x == 1) ≡ b → is_infinite_word (printed x) ≡ false
    at true e =
        ap is_infinite_word (printed-whole x ((Decides-eqb (den x) 1).0 e)) ∙ none (signed_decimal x.num) (subst (λ bytes. Digital (without_sign bytes)) (nil_right (signed_decimal x.num)) (behind_sign x.num [] fits.numerator))
    at false e =
        let apart : ¬ IsWhole x = λ is. let f : false ≡ true = sym e ∙ (Decides-eqb (den x) 1).1 is in cc in
        ap is_infinite_word (printed-fraction x apart) ∙ none (signed_decimal x.num ++ 47 ∷ decimal (den x)) (behind_sign x.num (47 ∷ decimal (den x)) fits.numerator)

pub limit_printed : (x : ℚ) → Fits x → IsNotFar x → limit_of (printed x) ≡ Ok (Finite x)
limit_printed x fits near =
    ap (λ b. if b then Ok (infinite (is_minus (printed x))) else limit_read (numeral_of (reading_of (printed x)))) (printed_finite x fits)
    ∙ ap (λ r. limit_read (numeral_of r)) (reading_of-printed x fits) ∙ ap Ok (limit_near x near)

-- ---- lines

abbrev pub bound_at : List ℕ → BoundKind → Limit → BoundLine
bound_at name kind l = record { column = name; kind = kind; limit = l }

abbrev pub with_bound : BoundLine → StatedModel → StatedModel
with_bound b s = record s { bounds = s.bounds ++ b ∷ [] }

-- what the two lines state: a line without a number has its last field's limit, which is not looked at
abbrev pub lower_stated : List ℕ → Option ℚ → BoundLine
lower_stated name (Some x) = bound_at name Lower (Finite x)
lower_stated name None = bound_at name NoLower (limit name)

abbrev pub upper_stated : List ℕ → Option ℚ → BoundLine
upper_stated name (Some x) = bound_at name Upper (Finite x)
upper_stated name None = bound_at name NoUpper (limit name)

module _ (s : StatedModel) (number : ℕ) (name : List ℕ) (there : s.section ≡ Some Bounds) (short : length name ≤ 255) (known : is_column s.columns name ≡ true) where
  long : is_long_name name ≡ false
  long = le-ltb 255 (length name) short

  unknown : not (is_column s.columns name) ≡ false
  unknown = not_from_true (is_column s.columns name) known

  module _ (x : ℚ) (lim : limit_of (printed x) ≡ Ok (Finite x)) where
    pub lower_clean : code_in s (entry_of number (lower_line name (Some x))) ≡ None
    unfolding code_in is_key
    lower_clean =
        ap (λ section. least (tests_of (line_kind section (entry_of number (lower_line name (Some x)))) s (entry_of number (lower_line name (Some x))))) there
        ∙ none_from ((6, false) ∷ bound_tests (Some Lower) s (entry_of number (lower_line name (Some x)))) (refl, (refl, (long, (ap is_not_number lim, (ap is_too_wide lim, (unknown, (ap (λ r. is_misplaced Lower (limit_or_plus r)) lim, tt)))))))

    pub lower_after : after s (entry_of number (lower_line name (Some x))) ≡ with_bound (bound_at name Lower (Finite x)) s
    unfolding after is_key
    lower_after =
        ap (λ section. after_kind (line_kind section (entry_of number (lower_line name (Some x)))) s (entry_of number (lower_line name (Some x)))) there
        ∙ ap (λ r. with_bound (bound_at name Lower (limit_or_plus r)) s) lim

    pub upper_clean : code_in s (entry_of number (upper_line name (Some x))) ≡ None
    unfolding code_in is_key
    upper_clean =
        ap (λ section. least (tests_of (line_kind section (entry_of number (upper_line name (Some x)))) s (entry_of number (upper_line name (Some x))))) there
        ∙ none_from ((6, false) ∷ bound_tests (Some Upper) s (entry_of number (upper_line name (Some x)))) (refl, (refl, (long, (ap is_not_number lim, (ap is_too_wide lim, (unknown, (ap (λ r. is_misplaced Upper (limit_or_plus r)) lim, tt)))))))

    pub upper_after : after s (entry_of number (upper_line name (Some x))) ≡ with_bound (bound_at name Upper (Finite x)) s
    unfolding after is_key
    upper_after =
        ap (λ section. after_kind (line_kind section (entry_of number (upper_line name (Some x)))) s (entry_of number (upper_line name (Some x)))) there
        ∙ ap (λ r. with_bound (bound_at name Upper (limit_or_plus r)) s) lim

  pub no_lower_clean : code_in s (entry_of number (lower_line name None)) ≡ None
  unfolding code_in is_key
  no_lower_clean =
      ap (λ section. least (tests_of (line_kind section (entry_of number (lower_line name None))) s (entry_of number (lower_line name None)))) there
      ∙ none_from ((6, false) ∷ bound_tests (Some NoLower) s (entry_of number (lower_line name None))) (refl, (refl, (long, (refl, (refl, (unknown, (refl, tt)))))))

  pub no_lower_after : after s (entry_of number (lower_line name None)) ≡ with_bound (bound_at name NoLower (limit name)) s
  unfolding after is_key
  no_lower_after = ap (λ section. after_kind (line_kind section (entry_of number (lower_line name None))) s (entry_of number (lower_line name None))) there

  pub no_upper_clean : code_in s (entry_of number (upper_line name None)) ≡ None
  unfolding code_in is_key
  no_upper_clean =
      ap (λ section. least (tests_of (line_kind section (entry_of number (upper_line name None))) s (entry_of number (upper_line name None)))) there
      ∙ none_from ((6, false) ∷ bound_tests (Some NoUpper) s (entry_of number (upper_line name None))) (refl, (refl, (long, (refl, (refl, (unknown, (refl, tt)))))))

  pub no_upper_after : after s (entry_of number (upper_line name None)) ≡ with_bound (bound_at name NoUpper (limit name)) s
  unfolding after is_key
  no_upper_after = ap (λ section. after_kind (line_kind section (entry_of number (upper_line name None))) s (entry_of number (upper_line name None))) there
