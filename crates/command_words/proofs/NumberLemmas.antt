-- Which words are whole numbers of 64 bits.
use Rattle.std.proofs.Common.{◌≡◌, ◌≢◌, ℕ, ◌<◌, ◌^◌, Bool, true, false, ◌&&◌, List, refl, sym, subst, ap, ◌∙◌, arith, if◌then◌else◌, Result, Some, None, Ok}
use Rattle.std.specs.Prelude.{decimal, nat_lt}
use Rattle.std.specs.Str.{IsUtf8, bytes_eq}
use Rattle.std.specs.Str.Parse.{ParsesUnsigned, digits_value}
use Rattle.std.proofs.lemmas.Bool.Decides.{nat_tests}
use Rattle.std.proofs.lemmas.Fmt.{parse-decimal, IsAscii-decimal, decimal_is_IsNumeral_wide}
use Rattle.std.proofs.lemmas.Slice.Eq.{bytes_eq-Decides}
use Rattle.std.proofs.lemmas.Str.{IsUtf8-from_ascii}
use Rattle.command_words.specs.Names.{whole_number_of}

-- the word is this number, which has 64 bits
record IsNumber (word : List ℕ) (n : ℕ) : Type 0 where
  digits : word ≡ decimal n
  room : n < 2 ^ 64

abbrev IsNone : List ℕ → Type 0
IsNone word = (n : ℕ) → ¬ IsNumber word n

value_of : (word : List ℕ) (n : ℕ) → IsNumber word n → digits_value 10 word ≡ n
value_of word n is = let room = is.room in ap (digits_value 10) is.digits ∙ (decimal_is_IsNumeral_wide n (omega arith)).1

both : (a b : Bool) → a ≡ true → b ≡ true → a && b ≡ true
both true b e f = f
both false b e f = cc

pub number_some : (word : List ℕ) (n : ℕ) → word ≡ decimal n → n < 2 ^ 64 → Some n ≡ whole_number_of word
number_some word n e room =
    let value = value_of word n (record { digits = e; room = room }) in
    let spelled : bytes_eq word (decimal (digits_value 10 word)) ≡ true = (bytes_eq-Decides word (decimal (digits_value 10 word))).1 (e ∙ ap decimal (sym value)) in
    let small : nat_lt (digits_value 10 word) (2 ^ 64) ≡ true = grind (arith, nat_tests) in
    ap Some (sym value) ∙ sym (ap (λ b. if b then Some (digits_value 10 word) else None) (both _ _ spelled small))

number_none : (word : List ℕ) → IsNone word → None ≡ whole_number_of word
number_none word h = by (bytes_eq word (decimal (digits_value 10 word))) (nat_lt (digits_value 10 word) (2 ^ 64)) refl refl
  where
    by : (a b : Bool) → bytes_eq word (decimal (digits_value 10 word)) ≡ a → nat_lt (digits_value 10 word) (2 ^ 64) ≡ b → None ≡ (if a && b then Some (digits_value 10 word) else None)
    by true true e f = absurd (h (digits_value 10 word) (record { digits = (bytes_eq-Decides word (decimal (digits_value 10 word))).0 e; room = grind (arith, nat_tests) }))
    by true false e f = refl
    by false b e f = refl

pub not_text : (word : List ℕ) → ¬ IsUtf8 word → None ≡ whole_number_of word
not_text word h = number_none word (λ n is. h (subst IsUtf8 (sym is.digits) (IsUtf8-from_ascii (decimal n) (IsAscii-decimal n is.room))))

pub not_parsed : {E : Type 0} (word text : List ℕ) (r : Result ℕ E) → text ≡ word → ParsesUnsigned 64 10 text r → ((x : ℕ) → ¬ (r ≡ Ok x)) → None ≡ whole_number_of word
not_parsed word text r e p h = number_none word (λ n is. h n (parse-decimal 64 n text r is.room is.room (e ∙ is.digits) p))

pub not_printed : {E : Type 0} (word text : List ℕ) (r : Result ℕ E) (number : ℕ) → text ≡ word → ParsesUnsigned 64 10 text r → r ≡ Ok number → decimal number ≢ word → None ≡ whole_number_of word
not_printed word text r number e p read h = number_none word (λ n is.
    let other : r ≡ Ok n = parse-decimal 64 n text r is.room is.room (e ∙ is.digits) p in
    let same : n ≡ number = cc in
    h (ap decimal (sym same) ∙ sym is.digits))
