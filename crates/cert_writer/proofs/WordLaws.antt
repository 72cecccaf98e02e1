-- Words: what is printed with a blank between words and a newline behind lines is cut where it was joined.
use Rattle.std.proofs.Common.{◌≡◌, ℕ, suc, ◌+◌, ◌-◌, ◌/◌, ◌%◌, ◌^◌, ◌<◌, ◌≤◌, Bool, true, false, ◌&&◌, List, [], ◌∷◌, ◌++◌, length, get_or, map, refl, sym, ap, subst, ◌∙◌, arith, length-append, if◌then◌else◌}
use Rattle.std.specs.Prelude.{All, Ok, not, pos, negsuc, ◌==◌}
use Rattle.std.specs.List.{list_all, filter, slice_split}
use Rattle.std.specs.Fmt.{decimal, signed_decimal}
use Rattle.std.proofs.lemmas.Bool.{false_from_ne_true}
use Rattle.std.proofs.lemmas.Bool.Decides.{nat_tests, Decides-eqb}
use Rattle.std.proofs.lemmas.Fmt.{decimal_by_steps_wide}
use Rattle.std.proofs.lemmas.List.Elements.{All-nil, All-cons, All-head, All-tail, All-append}
use Rattle.std.proofs.lemmas.List.Splits.{slice_split_none, slice_split_at}
use Rattle.std.proofs.Math.Seq.{get_or-append-add}
use Rattle.frac128.specs.Rational.{ℚ, den, IsWhole}
use Rattle.frac128.specs.Range.{Fits, IsNarrow}
use Rattle.frac128.specs.Printing.{printed}
use Rattle.frac128.proofs.Printed.{printed-whole, printed-fraction}
use Rattle.frac_text.specs.Spelling.{is_digit, value_of}
use Rattle.frac_text.proofs.Cuts.{both, all_joined}
use Rattle.frac_text.proofs.DigitTerms.{value_of-last}
use Rattle.cert_text.specs.Mults.{are_plain_digits, number_of_cut}
use Rattle.cert_text.proofs.MultLemmas.{number-some}
use Rattle.text_lines.specs.Lines.{Line, is_newline, HasNoNewline, lines_of, lines_of_pieces, line_bytes}
use Rattle.text_lines.specs.Words.{is_blank, HasNoBlank, is_piece, words_of, IsWord, spaced, Words}
use Rattle.text_lines.proofs.LineLemmas.{bytes-last}
use Rattle.text_lines.proofs.WordLemmas.{a_piece}
use Rattle.cert_text.specs.Lines.{begins_blank, ends_blank, words_say, line_says}
use Rattle.cert_writer.specs.CertText.{line_text, lines_text}

nil_right : {A : Type 0} (l : List A) → l ++ [] ≡ l
nil_right [] = refl
nil_right (x ∷ l) = ap (λ m. x ∷ m) (nil_right l)

-- ---- words by a test

abbrev pub is_plain : List ℕ → Bool
is_plain word = is_piece word && list_all (λ byte. not (is_newline byte) && not (is_blank byte)) word

plain_bytes : (word : List ℕ) → list_all (λ byte. not (is_newline byte) && not (is_blank byte)) word ≡ true → HasNoNewline word × HasNoBlank word
plain_bytes [] e = (All-nil (λ byte. is_newline byte ≡ false), All-nil (λ byte. is_blank byte ≡ false))
plain_bytes (byte ∷ word) e = by (is_newline byte) (is_blank byte) refl refl (plain_bytes word) e
  where
    by : (a b : Bool) → is_newline byte ≡ a → is_blank byte ≡ b → (list_all (λ byte. not (is_newline byte) && not (is_blank byte)) word ≡ true → HasNoNewline word × HasNoBlank word) → (not a && not b) && list_all (λ byte. not (is_newline byte) && not (is_blank byte)) word ≡ true → HasNoNewline (byte ∷ word) × HasNoBlank (byte ∷ word)
    by true b p q deeper h = absurd (cc)
    by false true p q deeper h = absurd (cc)
    by false false p q deeper h =
        let rest = deeper h in
        (All-cons (λ byte. is_newline byte ≡ false) byte word p rest.0, All-cons (λ byte. is_blank byte ≡ false) byte word q rest.1)

pub plain_word : (word : List ℕ) → is_plain word ≡ true → IsWord word
plain_word [] e = absurd (let f : false ≡ true = e in cc)
plain_word (byte ∷ word) e = let h = plain_bytes (byte ∷ word) e in record { some = omega arith; one_line = h.0; one_word = h.1 }

-- ---- numbers

digit_plain : (n : ℕ) → n < 10 → is_plain ((48 + n) ∷ []) ≡ true
digit_plain n h = grind (arith, nat_tests)

pub word-append : (a b : List ℕ) → IsWord a → HasNoNewline b → HasNoBlank b → IsWord (a ++ b)
word-append a b h one_line one_word = record {
  some = let l = length-append a b in let s = h.some in omega (arith, l, s);
  one_line = All-append (λ byte. is_newline byte ≡ false) a b h.one_line one_line;
  one_word = All-append (λ byte. is_blank byte ≡ false) a b h.one_word one_word;
}

pub decimal_word : (n : ℕ) → n < 10 ^ 64 → IsWord (decimal n)
decimal_word n h = decimal_by_steps_wide (λ m ds. IsWord ds) (λ m l. plain_word ((48 + m) ∷ []) (digit_plain m l)) more n h
  where
    more : (m : ℕ) (ds : List ℕ) → 10 ≤ m → IsWord ds → IsWord (ds ++ ((48 + m % 10) ∷ []))
    more m ds l w = let last = plain_word ((48 + m % 10) ∷ []) (digit_plain (m % 10) (omega arith)) in word-append ds ((48 + m % 10) ∷ []) w last.one_line last.one_word

-- ---- numbers of cuts

-- decimal digits without a leading zero, and their number
record IsPlainNumber (n : ℕ) (ds : List ℕ) : Type 0 where
  plain : are_plain_digits ds ≡ true
  value : value_of ds ≡ n

digit_test : (n : ℕ) → n < 10 → is_digit (48 + n) ≡ true
digit_test n h = grind (arith, nat_tests)

no_zero : (byte : ℕ) → ¬ (byte ≡ 48) → not (byte == 48) ≡ true
no_zero byte h = ap not (false_from_ne_true (byte == 48) (λ t. h ((Decides-eqb byte 48).0 t)))

plain-more : (ds : List ℕ) (digit : ℕ) → are_plain_digits ds ≡ true → ¬ (value_of ds ≡ 0) → is_digit digit ≡ true → are_plain_digits (ds ++ digit ∷ []) ≡ true
plain-more [] digit plain some h = absurd (let f : false ≡ true = plain in cc)
plain-more (byte ∷ []) digit plain some h =
    let apart : ¬ (byte ≡ 48) = λ e. some (omega (arith, e)) in
    (λ i. no_zero byte apart i && (plain i && (h i && true)))
plain-more (byte ∷ next ∷ more) digit plain some h =
    let parts = both (not (byte == 48)) (list_all is_digit (byte ∷ next ∷ more)) plain in
    (λ i. parts.0 i && all_joined is_digit (byte ∷ next ∷ more) (digit ∷ []) parts.1 (ap (λ (b : Bool). b && true) h) i)

decimal_plain : (n : ℕ) → n < 10 ^ 64 → IsPlainNumber n (decimal n)
decimal_plain n h = decimal_by_steps_wide IsPlainNumber one more n h
  where
    one : (m : ℕ) → m < 10 → IsPlainNumber m ((48 + m) ∷ [])
    one m l = record { plain = digit_test m l; value = omega arith }

    more : (m : ℕ) (ds : List ℕ) → 10 ≤ m → IsPlainNumber (m / 10) ds → IsPlainNumber m (ds ++ ((48 + m % 10) ∷ []))
    more m ds l is = record {
      plain = plain-more ds (48 + m % 10) is.plain (λ e. let v = is.value in omega (arith, l, e, v)) (digit_test (m % 10) (omega arith));
      value = value_of-last ds (48 + m % 10) ∙ (let v = is.value in omega arith);
    }

pub cut_number : (k : ℕ) → k < 2 ^ 64 → number_of_cut (decimal k) ≡ Ok k
cut_number k few = let is = decimal_plain k (omega (arith, few)) in sym (number-some (decimal k) is.plain k (sym is.value) few)

pub word-cons : (byte : ℕ) (w : List ℕ) → is_newline byte ≡ false → is_blank byte ≡ false → IsWord w → IsWord (byte ∷ w)
word-cons byte w p q h = record {
  some = omega arith;
  one_line = All-cons (λ b. is_newline b ≡ false) byte w p h.one_line;
  one_word = All-cons (λ b. is_blank b ≡ false) byte w q h.one_word;
}

pub signed_word : (v : Rattle.std.specs.Prelude.ℤ) → IsNarrow v → IsWord (signed_decimal v)
signed_word (pos n) h = decimal_word n (omega (arith, h))
signed_word (negsuc n) h = word-cons 45 (decimal (suc n)) refl refl (decimal_word (suc n) (omega (arith, h)))

pub number_word : (x : ℚ) → Fits x → IsWord (printed x)
number_word x fits = at (den x == 1) refl
  where
    at : (b : Bool) → (den x == 1) ≡ b → IsWord (printed x)
    at true e = subst IsWord (sym (printed-whole x ((Decides-eqb (den x) 1).0 e))) (signed_word x.num fits.numerator)
    at false e =
        let apart : ¬ IsWhole x = λ whole. let f : false ≡ true = sym e ∙ (Decides-eqb (den x) 1).1 whole in cc in
        let bottom = word-cons 47 (decimal (den x)) refl refl (decimal_word (den x) (let d = fits.denominator in omega (arith, d))) in
        subst IsWord (sym (printed-fraction x apart)) (word-append (signed_decimal x.num) (47 ∷ decimal (den x)) (signed_word x.num fits.numerator) bottom.one_line bottom.one_word)

-- ---- a line and its words

spaced-line : (words : Words) → All IsWord words → HasNoNewline (spaced words)
spaced-line [] all = All-nil (λ byte. is_newline byte ≡ false)
spaced-line (word ∷ words) all =
    All-cons (λ byte. is_newline byte ≡ false) 32 (word ++ spaced words) refl
    (All-append (λ byte. is_newline byte ≡ false) word (spaced words) (All-head IsWord word words all).one_line (spaced-line words (All-tail IsWord word words all)))

pub line-one : (words : Words) → All IsWord words → HasNoNewline (line_text words)
line-one [] all = All-nil (λ byte. is_newline byte ≡ false)
line-one (word ∷ words) all = All-append (λ byte. is_newline byte ≡ false) word (spaced words) (All-head IsWord word words all).one_line (spaced-line words (All-tail IsWord word words all))

cut_words : (word : List ℕ) (words : Words) → IsWord word → All IsWord words → slice_split is_blank (word ++ spaced words) ≡ word ∷ words
cut_words word [] w all = ap (slice_split is_blank) (nil_right word) ∙ slice_split_none is_blank word w.one_word
cut_words word (next ∷ words) w all =
    slice_split_at is_blank word 32 (next ++ spaced words) w.one_word refl
    ∙ ap (λ ws. word ∷ ws) (cut_words next words (All-head IsWord next words all) (All-tail IsWord next words all))

keep_words : (words : Words) → All IsWord words → filter is_piece words ≡ words
keep_words [] all = refl
keep_words (word ∷ words) all =
    ap (λ (b : Bool). if b then word ∷ filter is_piece words else filter is_piece words) (a_piece word (All-head IsWord word words all).some)
    ∙ ap (λ ws. word ∷ ws) (keep_words words (All-tail IsWord word words all))

last-append : (xs ys : List ℕ) → 0 < length ys → get_or (xs ++ ys) (length (xs ++ ys) - 1) 0 ≡ get_or ys (length ys - 1) 0
last-append xs ys some =
    let l = length-append xs ys in
    let at : length (xs ++ ys) - 1 ≡ length xs + (length ys - 1) = omega (arith, l, some) in
    ap (λ k. get_or (xs ++ ys) k 0) at ∙ get_or-append-add xs ys (length ys - 1) 0

last_no_blank : (word : List ℕ) (words : Words) → IsWord word → All IsWord words → is_blank (get_or (word ++ spaced words) (length (word ++ spaced words) - 1) 0) ≡ false
last_no_blank word [] w all =
    ap (λ l. is_blank (get_or l (length l - 1) 0)) (nil_right word) ∙ w.one_word (length word - 1) 0 (let s = w.some in omega (arith, s))
last_no_blank word (next ∷ words) w all =
    let v = All-head IsWord next words all in
    let l = length-append next (spaced words) in
    let s = v.some in
    ap is_blank (last-append word (32 ∷ (next ++ spaced words)) (omega arith) ∙ last-append (32 ∷ []) (next ++ spaced words) (omega (arith, l, s)))
    ∙ last_no_blank next words v (All-tail IsWord next words all)

first_no_blank : (word : List ℕ) (words : Words) → IsWord word → is_blank (get_or (word ++ spaced words) 0 0) ≡ false
first_no_blank [] words w = absurd (let s = w.some in omega (arith, s))
first_no_blank (byte ∷ word) words w = All-head (λ b. is_blank b ≡ false) byte word w.one_word

-- a line's words, and no blanks at its ends
pub words-there : (word : List ℕ) (words : Words) → IsWord word → All IsWord words → words_of (line_text (word ∷ words)) ≡ word ∷ words
unfolding words_of
words-there word words w all = ap (filter is_piece) (cut_words word words w all) ∙ keep_words (word ∷ words) (All-cons IsWord word words w all)

pub no-first-blank : (word : List ℕ) (words : Words) → IsWord word → begins_blank (line_text (word ∷ words)) ≡ false
no-first-blank word words w = first_no_blank word words w

pub no-last-blank : (word : List ℕ) (words : Words) → IsWord word → All IsWord words → ends_blank (line_text (word ∷ words)) ≡ false
no-last-blank word words w all = last_no_blank word words w all

-- a line says what its words say
pub line-says : (word : List ℕ) (words : Words) → IsWord word → All IsWord words → line_says (line_text (word ∷ words)) ≡ words_say false (word ∷ words)
unfolding line_says
line-says word words w all =
    let line = word ++ spaced words in
    ap (λ (b : Bool). if b then Rattle.std.specs.Prelude.Err 2 else words_say (ends_blank line) (words_of line)) (no-first-blank word words w)
    ∙ (λ i. words_say (no-last-blank word words w all i) (words-there word words w all i))

-- ---- the lines of a text

cut_lines : (lines : List Words) → All (All IsWord) lines → slice_split is_newline (lines_text lines) ≡ map line_text lines ++ [] ∷ []
cut_lines [] all = refl
cut_lines (line ∷ lines) all =
    slice_split_at is_newline (line_text line) 10 (lines_text lines) (line-one line (All-head (All IsWord) line lines all)) refl
    ∙ ap (λ pieces. line_text line ∷ pieces) (cut_lines lines (All-tail (All IsWord) line lines all))

pub lines-cut : (lines : List Words) → All (All IsWord) lines → line_bytes (lines_text lines) ≡ map line_text lines
unfolding line_bytes lines_of
lines-cut lines all =
    ap (λ pieces. map (λ (line : Line). line.bytes) (lines_of_pieces pieces)) (cut_lines lines all) ∙ bytes-last (map line_text lines) [] ∙ nil_right (map line_text lines)
