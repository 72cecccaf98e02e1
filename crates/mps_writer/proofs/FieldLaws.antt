-- Fields: words of 1 to 255 bytes from `!` to `~`. Names of a writable model, key words and printed numbers are such.
use Rattle.std.proofs.Common.{◌≡◌, ℕ, suc, ◌+◌, ◌%◌, ◌^◌, ◌<◌, ◌≤◌, Bool, true, false, List, [], ◌∷◌, ◌++◌, length, refl, sym, subst, ◌∙◌, arith, length-append}
use Rattle.std.specs.Prelude.{All, ℤ, pos, negsuc, ◌==◌, nat_le, ◌&&◌}
use Rattle.std.specs.List.{list_all}
use Rattle.std.specs.Fmt.{decimal, signed_decimal}
use Rattle.std.proofs.lemmas.Bool.{and_parts, leb-true}
use Rattle.std.proofs.lemmas.Bool.Decides.{nat_tests, Decides-eqb}
use Rattle.std.proofs.lemmas.Fmt.{decimal_by_steps_wide, length-decimal-le_wide}
use Rattle.std.proofs.lemmas.List.Elements.{All-nil, All-cons, All-append}
use Rattle.frac128.specs.Rational.{ℚ, den, IsWhole}
use Rattle.frac128.specs.Range.{Fits, IsNarrow}
use Rattle.frac128.specs.Printing.{printed}
use Rattle.frac128.proofs.Printed.{printed-whole, printed-fraction}
use Rattle.lp_model.specs.Names.{is_name_byte, is_lawful_name}
use Rattle.text_lines.specs.Lines.{HasNoNewline, is_newline}
use Rattle.text_lines.specs.Words.{is_blank, HasNoBlank}
use Rattle.mps_text.specs.Text.{is_strange}
use Rattle.mps_writer.specs.Writable.{IsVisible, IsField}

-- ---- visible bytes

pub not_blank : (byte : ℕ) → IsVisible byte → is_blank byte ≡ false
not_blank byte v = let a = v.from in grind (arith, nat_tests)

pub not_newline : (byte : ℕ) → IsVisible byte → is_newline byte ≡ false
not_newline byte v = let a = v.from in grind (arith, nat_tests)

pub not_return : (byte : ℕ) → IsVisible byte → (byte == 13) ≡ false
not_return byte v = let a = v.from in grind (arith, nat_tests)

pub not_strange : (byte : ℕ) → IsVisible byte → is_strange byte ≡ false
not_strange byte v = let a = v.from in let b = v.to in grind (arith, nat_tests)

each : {P Q : ℕ → Type 0} → ((byte : ℕ) → P byte → Q byte) → (bytes : List ℕ) → All P bytes → All Q bytes
each f bytes h = λ i d below. f _ (h i d below)

pub field_blank : (word : List ℕ) → IsField word → HasNoBlank word
field_blank word f = each not_blank word f.visible

pub field_newline : (word : List ℕ) → IsField word → HasNoNewline word
field_newline word f = each not_newline word f.visible

-- ---- key words

visible : (byte : ℕ) → is_name_byte byte ≡ true → IsVisible byte
visible byte e = let p = and_parts (nat_le 33 byte) (nat_le byte 126) e in record { from = leb-true 33 byte p.0; to = leb-true byte 126 p.1 }

all_visible : (bytes : List ℕ) → list_all is_name_byte bytes ≡ true → All IsVisible bytes
all_visible [] e = All-nil IsVisible
all_visible (byte ∷ bytes) e = let p = and_parts (is_name_byte byte) (list_all is_name_byte bytes) e in All-cons IsVisible byte bytes (visible byte p.0) (all_visible bytes p.1)

-- a key word, by tests that compute
pub key_field : (word : List ℕ) → is_lawful_name word ≡ true → IsField word
key_field word e =
    let p = and_parts (nat_le 1 (length word) && nat_le (length word) 255) (list_all is_name_byte word) e in
    let q = and_parts (nat_le 1 (length word)) (nat_le (length word) 255) p.0 in
    let some = leb-true 1 (length word) q.0 in
    record { some = omega (arith, some); short = leb-true (length word) 255 q.1; visible = all_visible word p.1 }

-- ---- numbers: at most 65 bytes before the slash, and 65 with it

-- visible bytes, one at least, and so many at most
record IsShort (most : ℕ) (bytes : List ℕ) : Type 0 where
  some : 0 < length bytes
  short : length bytes ≤ most
  visible : All IsVisible bytes

digit_visible : (n : ℕ) → n < 10 → IsVisible (48 + n)
digit_visible n h = record { from = omega arith; to = omega (arith, h) }

digit_alone : (n : ℕ) → n < 10 → All IsVisible ((48 + n) ∷ [])
digit_alone n h = All-cons IsVisible (48 + n) [] (digit_visible n h) (All-nil IsVisible)

decimal_visible : (n : ℕ) → n < 10 ^ 64 → (0 < length (decimal n)) × All IsVisible (decimal n)
decimal_visible n h = decimal_by_steps_wide (λ m ds. (0 < length ds) × All IsVisible ds) (λ m l. (omega arith, digit_alone m l)) more n h
  where
    more : (m : ℕ) (ds : List ℕ) → 10 ≤ m → (0 < length ds) × All IsVisible ds → (0 < length (ds ++ ((48 + m % 10) ∷ []))) × All IsVisible (ds ++ ((48 + m % 10) ∷ []))
    more m ds l w = let some = w.0 in (omega (arith, some, length-append ds ((48 + m % 10) ∷ [])), All-append IsVisible ds ((48 + m % 10) ∷ []) w.1 (digit_alone (m % 10) (omega arith)))

decimal_short : (n : ℕ) → n < 10 ^ 64 → IsShort 64 (decimal n)
decimal_short n h = let v = decimal_visible n h in record { some = v.0; short = length-decimal-le_wide 64 n (omega arith) h h; visible = v.1 }

byte_before : (byte most : ℕ) (bytes : List ℕ) → IsVisible byte → IsShort most bytes → IsShort (suc most) (byte ∷ bytes)
byte_before byte most bytes v h = let short = h.short in record { some = omega arith; short = omega (arith, short); visible = All-cons IsVisible byte bytes v h.visible }

signed_short : (v : ℤ) → IsNarrow v → IsShort 65 (signed_decimal v)
signed_short (pos n) h = let d = decimal_short n (omega (arith, h)) in let short = d.short in record { some = d.some; short = omega (arith, short); visible = d.visible }
signed_short (negsuc n) h = byte_before 45 64 (decimal (suc n)) (record { from = omega arith; to = omega arith }) (decimal_short (suc n) (omega (arith, h)))

-- ---- printed numbers are fields

pub number_field : (x : ℚ) → Fits x → IsField (printed x)
number_field x fits = at (den x == 1) refl
  where
    top : IsShort 65 (signed_decimal x.num)
    top = signed_short x.num fits.numerator

    whole : IsField (signed_decimal x.num)
    whole = let short = top.short in record { some = top.some; short = omega (arith, short); visible = top.visible }

    bottom : IsShort 65 (47 ∷ decimal (den x))
    bottom = byte_before 47 64 (decimal (den x)) (record { from = omega arith; to = omega arith }) (decimal_short (den x) (let d = fits.denominator in omega (arith, d)))

    both : IsField (signed_decimal x.num ++ 47 ∷ decimal (den x))
    both =
        let some = top.some in let a = top.short in let b = bottom.short in let all = length-append (signed_decimal x.num) (47 ∷ decimal (den x)) in
        record { some = omega (arith, some, all); short = omega (arith, a, b, all); visible = All-append IsVisible (signed_decimal x.num) (47 ∷ decimal (den x)) top.visible bottom.visible }

    at : (b : Bool) → (den x == 1) ≡ b → IsField (printed x)
    at true e = subst IsField (sym (printed-whole x ((Decides-eqb (den x) 1).0 e))) whole
    at false e =
        let apart : ¬ IsWhole x = λ is. let f : false ≡ true = sym e ∙ (Decides-eqb (den x) 1).1 is in cc in
        subst IsField (sym (printed-fraction x apart)) both
