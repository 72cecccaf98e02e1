-- The outcomes that a reply shows, read from its bytes alone: behind its first line, of each line of the word `f` and two whole numbers those
-- two, in order, up to the first line that is none.
use Rattle.std.specs.Prelude.{ℕ, ℤ, if◌then◌else◌, List, [], ◌∷◌, map, drop, codes, bytes_eq, Option, Some, None, Result, Ok, Err}
use Rattle.frac128.specs.Rational.{ℚ}
use Rattle.frac_text.specs.Parsing.{spelled_number}
use Rattle.frac_text.specs.declared.parsing.NumFault.{NumFault}
use Rattle.text_lines.specs.Lines.{line_bytes}
use Rattle.text_lines.specs.Words.{words_of}
use Rattle.cert_text.specs.Lines.{is_whole}
use Rattle.frontier.specs.declared.outcomes.Outcome.{Outcome}

abbrev pub whole_spelled : Result ℚ NumFault → Option ℤ
whole_spelled (Ok x) = if is_whole x then Some x.num else None
whole_spelled (Err fault) = None

abbrev pub outcome_told : Option ℤ → Option ℤ → Option Outcome
outcome_told (Some first) (Some second) = Some (record { f1 = first; f2 = second })
outcome_told (Some first) None = None
outcome_told None second = None

-- the outcome that a line's words tell, if they tell one
abbrev pub outcome_in : List (List ℕ) → Option Outcome
outcome_in (key ∷ first ∷ second ∷ []) = if bytes_eq key (codes "f") then outcome_told (whole_spelled (spelled_number first)) (whole_spelled (spelled_number second)) else None
outcome_in words = None

abbrev pub outcome_on : List ℕ → Option Outcome
outcome_on line = outcome_in (words_of line)

-- those that stand before the first that is none
abbrev pub first_told : List (Option Outcome) → List Outcome
first_told [] = []
first_told (None ∷ more) = []
first_told (Some o ∷ more) = o ∷ first_told more

unfoldable pub front_shown : List ℕ → List Outcome
front_shown reply = first_told (map outcome_on (drop 1 (line_bytes reply)))
