-- Multipliers from the first one on, and the numbers of cuts.
use Rattle.std.proofs.Common.{◌≡◌, ℕ, ◌-◌, ◌^◌, ◌≤◌, ◌<◌, ◌++◌, ◌&&◌, List, [], ◌∷◌, length, get_or, take, drop, arith, sym, ap, subst, refl, ◌∙◌, append_assoc, Bor, Bool, true, false, if◌then◌else◌}
use Rattle.std.specs.Prelude.{map, codes, bytes_eq, not, ◌==◌, nat_lt, min, Option, Some, None, Result, Ok, Err}
use Rattle.std.specs.List.{list_all}
use Rattle.std.proofs.lemmas.Bool.Decides.{nat_tests}
use Rattle.std.proofs.lemmas.Grind.{common_steps}
use Rattle.frac_text.specs.Spelling.{is_digit, value_of}
use Rattle.frac_text.specs.Parsing.{spelled_number}
use Rattle.frac_text.specs.declared.parsing.NumFault.{NumFault}
use Rattle.frac_text.specs.declared.parsing.NumFault.TheVariants.{NotNumber, Wide}
use Rattle.frac_text.proofs.Cuts.{both}
use Rattle.frac128.specs.Rational.{ℚ}
use Rattle.cert_text.specs.declared.cert.CertMult.{CertMult}
use Rattle.cert_text.specs.Numbers.{number_code}
use Rattle.cert_text.specs.Mults.{are_plain_digits, number_of_cut, row_mult, cut_mult, mult_in, with_mult, mults_in}
use Rattle.cert_text.specs.Reading.{min_or, joined_items}

abbrev nows : List (Bor (List ℕ)) → List (List ℕ)
nows words = map (λ word. word.now) words

-- ---- a cut's number

pub plain-digits : (word : List ℕ) → are_plain_digits word ≡ true → list_all is_digit word ≡ true
plain-digits [] e = absurd (let f : false ≡ true = e in cc)
plain-digits (byte ∷ []) e = ap (λ (b : Bool). b && true) e
plain-digits (byte ∷ next ∷ more) e = (both (not (byte == 48)) (list_all is_digit (byte ∷ next ∷ more)) e).1

not_below : (a b : ℕ) → b ≤ a → nat_lt a b ≡ false
not_below a b h = grind (arith, nat_tests)

is_below : (a b : ℕ) → a < b → nat_lt a b ≡ true
is_below a b h = grind (arith, nat_tests)

abbrev number_by : Bool → Bool → ℕ → Result ℕ ℕ
number_by a b n = if a then (if b then Ok n else Err 5) else Err 4

pub number-none : (word : List ℕ) → are_plain_digits word ≡ false → Err 4 ≡ number_of_cut word
number-none word e = sym (ap (λ (b : Bool). number_by b (nat_lt (value_of word) (2 ^ 64)) (value_of word)) e)

module _ (word : List ℕ) (plain : are_plain_digits word ≡ true) where
  pub number-wide : 2 ^ 64 ≤ value_of word → Err 5 ≡ number_of_cut word
  number-wide wide =
      let above = not_below (value_of word) (2 ^ 64) wide in
      sym (λ i. number_by (plain i) (above i) (value_of word))

  pub number-some : (n : ℕ) → n ≡ value_of word → n < 2 ^ 64 → Ok n ≡ number_of_cut word
  number-some n is room =
      let below = is_below (value_of word) (2 ^ 64) (subst (λ v. v < 2 ^ 64) is room) in
      ap Ok is ∙ sym (λ i. number_by (plain i) (below i) (value_of word))

-- ---- the codes of a multiplier

abbrev IsHigh : {A : Type 0} → Result A ℕ → Type 0
IsHigh (Ok x) = Unit {0}
IsHigh (Err code) = 3 ≤ code

code-high : (fault : NumFault) → 3 ≤ number_code fault
code-high NotNumber = omega arith
code-high Wide = omega arith

cut-high : (word : List ℕ) → IsHigh (number_of_cut word)
cut-high word = by (are_plain_digits word) (nat_lt (value_of word) (2 ^ 64))
  where
    by : (a b : Bool) → IsHigh (number_by a b (value_of word))
    by true true = tt
    by true false = omega arith
    by false b = omega arith

both-high : (a b : ℕ) → 3 ≤ a → 3 ≤ b → 3 ≤ min a b
both-high a b h k = omega (arith, h, k)

mult-high : (key word number : List ℕ) → IsHigh (mult_in key word number)
mult-high key word number = by (bytes_eq key (codes "row")) (bytes_eq key (codes "cut")) (row (spelled_number number)) (cut (number_of_cut word) (spelled_number number) (cut-high word))
  where
    row : (r : Result ℚ NumFault) → IsHigh (row_mult word r)
    row (Ok v) = tt
    row (Err fault) = code-high fault

    cut : (k : Result ℕ ℕ) (r : Result ℚ NumFault) → IsHigh k → IsHigh (cut_mult k r)
    cut (Ok k) (Ok v) high = tt
    cut (Ok k) (Err fault) high = code-high fault
    cut (Err code) (Ok v) high = high
    cut (Err code) (Err fault) high = both-high code (number_code fault) high (code-high fault)

    by : (a b : Bool) → IsHigh (row_mult word (spelled_number number)) → IsHigh (cut_mult (number_of_cut word) (spelled_number number)) →
        IsHigh (if a then row_mult word (spelled_number number) else if b then cut_mult (number_of_cut word) (spelled_number number) else Err 3)
    by true b first second = first
    by false true first second = second
    by false false first second = omega arith

pub mult-code : (key word number : List ℕ) (code : ℕ) → mult_in key word number ≡ Err code → 3 ≤ code
mult-code key word number code e = subst IsHigh e (mult-high key word number)

-- ---- multipliers one after the other

pub joined-mult : (least : Option ℕ) (items more : List CertMult) (said : Result CertMult ℕ) (mult : CertMult) → said ≡ Ok mult → more ≡ items ++ mult ∷ [] → (rest : Result (List CertMult) ℕ) →
    joined_items least items (with_mult said rest) ≡ joined_items least more rest
joined-mult least items more said mult e f rest = ap (λ s. joined_items least items (with_mult s rest)) e ∙ here least rest ∙ ap (λ ms. joined_items least ms rest) (sym f)
  where
    here : (least : Option ℕ) (rest : Result (List CertMult) ℕ) → joined_items least items (with_mult (Ok mult) rest) ≡ joined_items least (items ++ mult ∷ []) rest
    here None (Ok mults) = ap Ok (sym (append_assoc items (mult ∷ []) mults))
    here None (Err code) = refl
    here (Some l) (Ok mults) = refl
    here (Some l) (Err code) = refl

min-thrice : (a b c : ℕ) → min a (min b c) ≡ min (min a b) c
min-thrice a b c = omega arith

pub joined-code : (least : Option ℕ) (items : List CertMult) (said : Result CertMult ℕ) (code : ℕ) → said ≡ Err code → (rest : Result (List CertMult) ℕ) →
    joined_items least items (with_mult said rest) ≡ joined_items (Some (min_or least code)) items rest
joined-code least items said code e rest = ap (λ s. joined_items least items (with_mult s rest)) e ∙ here least rest
  where
    here : (least : Option ℕ) (rest : Result (List CertMult) ℕ) → joined_items least items (with_mult (Err code) rest) ≡ joined_items (Some (min_or least code)) items rest
    here None (Ok mults) = refl
    here None (Err other) = refl
    here (Some l) (Ok mults) = refl
    here (Some l) (Err other) = ap Err (min-thrice l code other)

pub mults_in-none : (words : List (Bor (List ℕ))) → length words ≡ 0 → mults_in (nows words) ≡ Ok []
mults_in-none [] none = refl
mults_in-none (a ∷ more) none = absurd (omega arith)

pub mults_in-short : (words : List (Bor (List ℕ))) → ¬ (length words ≡ 0) → length words < 3 → mults_in (nows words) ≡ Err 3
mults_in-short [] some few = absurd (some refl)
mults_in-short (a ∷ []) some few = refl
mults_in-short (a ∷ b ∷ []) some few = refl
mults_in-short (a ∷ b ∷ c ∷ more) some few = absurd (omega arith)

back : (a b c : Bor (List ℕ)) (more : List (Bor (List ℕ))) → take (length (a ∷ b ∷ c ∷ more) - 3) (drop 3 (a ∷ b ∷ c ∷ more)) ≡ more
back a b c more = grind (arith, common_steps)

pub mults_in-first : (words : List (Bor (List ℕ))) (d e f : Bor (List ℕ)) → 3 ≤ length words →
    mults_in (nows words) ≡ with_mult (mult_in (get_or words 0 d).now (get_or words 1 e).now (get_or words 2 f).now) (mults_in (nows (take (length words - 3) (drop 3 words))))
mults_in-first [] d e f h = absurd (omega arith)
mults_in-first (a ∷ []) d e f h = absurd (omega arith)
mults_in-first (a ∷ b ∷ []) d e f h = absurd (omega arith)
mults_in-first (a ∷ b ∷ c ∷ more) d e f h = ap (λ ws. with_mult (mult_in a.now b.now c.now) (mults_in (nows ws))) (sym (back a b c more))
