-- The words of a line, and the lines of a reply, that were put together from words.
use Rattle.std.proofs.Common.{◌≡◌, ℕ, suc, ◌+◌, ◌%◌, ◌^◌, ◌<◌, ◌≤◌, Bool, true, false, List, [], ◌∷◌, ◌++◌, length, map, refl, ap, arith, ℤ, pos, negsuc, unsigned_abs, if◌then◌else◌}
use Rattle.std.specs.Prelude.{nat_le, ◌==◌}
use Rattle.std.specs.Fmt.{decimal, signed_decimal}
use Rattle.std.specs.List.{All, list_all}
use Rattle.std.proofs.lemmas.Bool.Decides.{nat_tests}
use Rattle.std.proofs.lemmas.Fmt.{decimal_by_steps_wide}
use Rattle.std.proofs.lemmas.List.Elements.{All-nil, All-cons, All-append, All-weaker}
use Rattle.std.proofs.lemmas.List.Splits.{slice_split_at}
use Rattle.frac128.specs.Rational.{ℚ, den}
use Rattle.frac128.specs.Range.{Fits, largest}
use Rattle.frac128.specs.Printing.{printed}
use Rattle.frac_text.proofs.Cuts.{both}
use Rattle.text_lines.specs.Lines.{is_newline, HasNoNewline}
use Rattle.text_lines.specs.Words.{is_blank, words_of, IsWord}
use Rattle.text_lines.proofs.WordLemmas.{words-one, words-more, something}
use Rattle.shell_replies.specs.Shown.{lines_shown}

-- ---- what is printed is a word

abbrev IsHigh : ℕ → Type 0
IsHigh byte = 33 ≤ byte

-- one byte at least, and each behind the blank
record AreHigh (bytes : List ℕ) : Type 0 where
  some : 0 < length bytes
  all : All IsHigh bytes

plain : (bytes : List ℕ) → AreHigh bytes → IsWord bytes
plain bytes h = record {
  some = h.some;
  one_line = All-weaker IsHigh (λ byte. is_newline byte ≡ false) no_newline bytes h.all;
  one_word = All-weaker IsHigh (λ byte. is_blank byte ≡ false) no_blank bytes h.all;
}
  where
    no_newline : (byte : ℕ) → IsHigh byte → is_newline byte ≡ false
    no_newline byte high = grind (arith, nat_tests)

    no_blank : (byte : ℕ) → IsHigh byte → is_blank byte ≡ false
    no_blank byte high = grind (arith, nat_tests)

some_append : (a b : List ℕ) → 0 < length a → 0 < length (a ++ b)
some_append [] b h = absurd (omega arith)
some_append (x ∷ a) b h = omega arith

high_append : (a b : List ℕ) → AreHigh a → AreHigh b → AreHigh (a ++ b)
high_append a b h k = record { some = some_append a b h.some; all = All-append IsHigh a b h.all k.all }

high_cons : (byte : ℕ) (b : List ℕ) → 33 ≤ byte → AreHigh b → AreHigh (byte ∷ b)
high_cons byte b h k = record { some = omega arith; all = All-cons IsHigh byte b h k.all }

high_one : (byte : ℕ) → 33 ≤ byte → AreHigh (byte ∷ [])
high_one byte h = record { some = omega arith; all = All-cons IsHigh byte [] h (All-nil IsHigh) }

high_decimal : (n : ℕ) → n < 10 ^ 64 → AreHigh (decimal n)
high_decimal n h = decimal_by_steps_wide (λ n digits. AreHigh digits) one more n h
  where
    one : (n : ℕ) → n < 10 → AreHigh ((48 + n) ∷ [])
    one n h = high_one (48 + n) (omega arith)

    more : (n : ℕ) (ds : List ℕ) → 10 ≤ n → AreHigh ds → AreHigh (ds ++ ((48 + n % 10) ∷ []))
    more n ds h are = high_append ds ((48 + n % 10) ∷ []) are (high_one (48 + n % 10) (omega arith))

high_signed : (z : ℤ) → unsigned_abs z ≤ largest → AreHigh (signed_decimal z)
high_signed (pos n) h = high_decimal n (omega arith)
high_signed (negsuc n) h = high_cons 45 (decimal (suc n)) (omega arith) (high_decimal (suc n) (omega arith))

high_printed : (x : ℚ) → Fits x → AreHigh (printed x)
unfolding printed
high_printed x f = by (den x == 1)
  where
    top : AreHigh (signed_decimal x.num)
    top = high_signed x.num f.numerator

    bottom : AreHigh (decimal (den x))
    bottom = let room = f.denominator in high_decimal (den x) (omega arith)

    by : (b : Bool) → AreHigh (if b then signed_decimal x.num else signed_decimal x.num ++ 47 ∷ decimal (den x))
    by true = top
    by false = high_append (signed_decimal x.num) (47 ∷ decimal (den x)) top (high_cons 47 (decimal (den x)) (omega arith) bottom)

high_tested : (bytes : List ℕ) → list_all (nat_le 33) bytes ≡ true → All IsHigh bytes
high_tested [] h = All-nil IsHigh
high_tested (byte ∷ bytes) h =
    let parts = both (nat_le 33 byte) (list_all (nat_le 33) bytes) h in
    All-cons IsHigh byte bytes (at_least byte parts.0) (high_tested bytes parts.1)
  where
    at_least : (byte : ℕ) → nat_le 33 byte ≡ true → 33 ≤ byte
    at_least byte e = grind (arith, nat_tests)

pub decimal-plain : (n : ℕ) → n < 2 ^ 64 → IsWord (decimal n)
decimal-plain n h = plain (decimal n) (high_decimal n (omega arith))

pub printed-plain : (x : ℚ) → Fits x → IsWord (printed x)
printed-plain x f = plain (printed x) (high_printed x f)

-- a word that is written out
pub tested-plain : (bytes : List ℕ) → 0 < length bytes → list_all (nat_le 33) bytes ≡ true → IsWord bytes
tested-plain bytes some h = plain bytes (record { some = some; all = high_tested bytes h })

-- ---- words

-- a word alone
pub words_of-name : (word : List ℕ) → IsWord word → words_of word ≡ word ∷ []
words_of-name word p = words-one word p.one_word (something word p.some)

-- a word and a blank, before the words of what follows
pub words_of-more : (word rest : List ℕ) → IsWord word → words_of (word ++ 32 ∷ rest) ≡ word ∷ words_of rest
words_of-more word rest p = words-more word 32 rest p.one_word (something word p.some) refl

-- ---- lines

pub joined-one_line : (word rest : List ℕ) → IsWord word → HasNoNewline rest → HasNoNewline (word ++ 32 ∷ rest)
joined-one_line word rest p h = All-append (λ byte. is_newline byte ≡ false) word (32 ∷ rest) p.one_line (All-cons (λ byte. is_newline byte ≡ false) 32 rest refl h)

pub lines_shown-more : (line rest : List ℕ) → HasNoNewline line → lines_shown (line ++ 10 ∷ rest) ≡ words_of line ∷ lines_shown rest
unfolding lines_shown
lines_shown-more line rest h = ap (map words_of) (slice_split_at is_newline line 10 rest h refl)
