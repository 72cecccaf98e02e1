-- What the words behind `cut` on a line say, `ROW hi LIT..` or `ROW lo LIT..`. Code 3 is the one of their form: no side `hi` or
-- `lo`, no literal, a literal without a sign or without a name.
use Rattle.std.specs.Prelude.{ℕ, Bool, true, false, if◌then◌else◌, ◌==◌, List, [], ◌∷◌, drop, Option, None, Some, Result, Ok, Err}
use Rattle.std.specs.Option.{option_map}
use Rattle.lp_model.specs.declared.types.Side.{Side}
use Rattle.lp_model.specs.Sides.{side_of_word}
use Rattle.cert_text.specs.declared.cert.NamedCut.{NamedCut}

-- `+NAME` and `-NAME`: whether the sign is +, where there are a sign and a name
abbrev pub sign_in : List ℕ → Option Bool
sign_in (sign ∷ byte ∷ name) = if sign == 43 then Some true else if sign == 45 then Some false else None
sign_in word = None

abbrev pub literal_in : List ℕ → Option (List ℕ × Bool)
literal_in word = option_map (λ plus. (drop 1 word, plus)) (sign_in word)

abbrev pub with_literal : Option (List ℕ × Bool) → Result (List (List ℕ × Bool)) ℕ → Result (List (List ℕ × Bool)) ℕ
with_literal (Some literal) (Ok literals) = Ok (literal ∷ literals)
with_literal (Some literal) (Err code) = Err code
with_literal None literals = Err 3

abbrev pub literals_in : List (List ℕ) → Result (List (List ℕ × Bool)) ℕ
literals_in [] = Ok []
literals_in (word ∷ words) = with_literal (literal_in word) (literals_in words)

abbrev pub cut_by : List ℕ → Option Side → Result (List (List ℕ × Bool)) ℕ → Result NamedCut ℕ
cut_by row (Some s) (Ok (literal ∷ literals)) = Ok (record { row = row; side = s; literals = literal ∷ literals })
cut_by row (Some s) (Ok []) = Err 3
cut_by row (Some s) (Err code) = Err code
cut_by row None literals = Err 3

-- what the words behind `cut` say
abbrev pub cut_line_in : List (List ℕ) → Result NamedCut ℕ
cut_line_in (row ∷ side ∷ literals) = cut_by row (side_of_word side) (literals_in literals)
cut_line_in words = Err 3
