-- The multipliers on a leaf's line, `row NAME V` and `cut K V` any number of times, or the least code of their faults:
--     3   words that are no multipliers
--     4   no number where one is due: for a cut's number, no decimal digits without a leading zero
--     5   a number is too wide, or a cut's is above 2^64 - 1
use Rattle.std.specs.Prelude.{ℕ, ◌^◌, Bool, false, not, ◌&&◌, if◌then◌else◌, ◌==◌, nat_lt, min, List, [], ◌∷◌, codes, bytes_eq, Result, Ok, Err}
use Rattle.std.specs.List.{list_all}
use Rattle.frac128.specs.Rational.{ℚ}
use Rattle.frac_text.specs.Spelling.{is_digit, value_of}
use Rattle.frac_text.specs.Parsing.{spelled_number}
use Rattle.frac_text.specs.declared.parsing.NumFault.{NumFault}
use Rattle.cert_text.specs.declared.cert.CertMult.{CertMult}
use Rattle.cert_text.specs.declared.cert.CertMult.TheVariants.{Row, Cut}
use Rattle.cert_text.specs.Numbers.{number_code, least_code}

-- ---- a cut's number

-- decimal digits without a leading zero
abbrev pub are_plain_digits : List ℕ → Bool
are_plain_digits [] = false
are_plain_digits (byte ∷ []) = is_digit byte
are_plain_digits (byte ∷ next ∷ more) = not (byte == 48) && list_all is_digit (byte ∷ next ∷ more)

abbrev pub number_of_cut : List ℕ → Result ℕ ℕ
number_of_cut word = if are_plain_digits word then (if nat_lt (value_of word) (2 ^ 64) then Ok (value_of word) else Err 5) else Err 4

-- ---- multipliers

abbrev pub row_mult : List ℕ → Result ℚ NumFault → Result CertMult ℕ
row_mult name (Ok v) = Ok (Row name v)
row_mult name (Err fault) = Err (number_code fault)

abbrev pub cut_mult : Result ℕ ℕ → Result ℚ NumFault → Result CertMult ℕ
cut_mult (Ok k) (Ok v) = Ok (Cut k v)
cut_mult (Ok k) (Err fault) = Err (number_code fault)
cut_mult (Err code) (Ok v) = Err code
cut_mult (Err code) (Err fault) = Err (min code (number_code fault))

-- `row NAME V` or `cut K V`
abbrev pub mult_in : List ℕ → List ℕ → List ℕ → Result CertMult ℕ
mult_in key word number =
    if bytes_eq key (codes "row") then row_mult word (spelled_number number)
    else if bytes_eq key (codes "cut") then cut_mult (number_of_cut word) (spelled_number number)
    else Err 3

-- a multiplier in front of others
abbrev pub with_mult : Result CertMult ℕ → Result (List CertMult) ℕ → Result (List CertMult) ℕ
with_mult (Ok mult) (Ok mults) = Ok (mult ∷ mults)
with_mult (Ok mult) (Err code) = Err code
with_mult (Err code) rest = Err (least_code code rest)

abbrev pub mults_in : List (List ℕ) → Result (List CertMult) ℕ
mults_in (key ∷ word ∷ number ∷ more) = with_mult (mult_in key word number) (mults_in more)
mults_in [] = Ok []
mults_in words = Err 3
