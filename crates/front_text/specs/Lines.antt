-- The lines of a front's text, and what each says by itself, or the least code of its own faults, as in the text of a certificate of
-- one value:
--     2   its first word is unknown, or it begins with a blank
--     3   its form: the words behind the first one, a blank at its end, or a value that is not whole
--     4   no number stands where one is due: for a gap's number, no decimal digits without a leading zero
--     5   a number is too wide, or a gap's is above 2^64 - 1
-- The lines `point`, `cut`, `split`, `leaf` and `end` are the same there (cert_text). `cert`, `claim` and `ray` stand in none of
-- this kind, whatever follows the word.
use Rattle.std.specs.Prelude.{ℕ, ℤ, min, Bool, false, ◌||◌, if◌then◌else◌, List, [], ◌∷◌, codes, bytes_eq, Option, None, Some, Result, Ok, Err}
use Rattle.text_lines.specs.Words.{words_of}
use Rattle.frac128.specs.Rational.{ℚ}
use Rattle.frac_text.specs.declared.parsing.NumFault.{NumFault}
use Rattle.frac_text.specs.Parsing.{spelled_number}
use Rattle.cert_text.specs.Numbers.{number_code}
use Rattle.cert_text.specs.Mults.{number_of_cut}
use Rattle.cert_text.specs.Lines.{begins_blank, ends_blank, is_whole, line_says}
use Rattle.cert_text.specs.declared.line.Statement.{Statement}
use Rattle.cert_text.specs.declared.line.Statement.TheVariants as common
use Rattle.front_text.specs.declared.front.TreeOf.TheVariants.{Least1, Least2, Gap}
use Rattle.front_text.specs.declared.front_line.FrontWord.{FrontWord}
use Rattle.front_text.specs.declared.front_line.FrontWord.TheVariants as word
use Rattle.front_text.specs.declared.front_line.FrontStatement.{FrontStatement}
use Rattle.front_text.specs.declared.front_line.FrontStatement.TheVariants as says

-- ---- what the words behind the first one say

-- `front 1`
abbrev pub header_says : List (List ℕ) → Result FrontStatement ℕ
header_says (version ∷ []) = if bytes_eq version (codes "1") then Ok says.Header else Err 3
header_says words = Err 3

-- a value of an outcome is a whole number
abbrev pub whole_number : Result ℚ NumFault → Result ℤ ℕ
whole_number (Ok x) = if is_whole x then Ok x.num else Err 3
whole_number (Err fault) = Err (number_code fault)

abbrev pub two_values : Result ℤ ℕ → Result ℤ ℕ → Result FrontStatement ℕ
two_values (Ok v1) (Ok v2) = Ok (says.Outcome v1 v2)
two_values (Ok v1) (Err code) = Err code
two_values (Err code) (Ok v2) = Err code
two_values (Err code) (Err other) = Err (min code other)

-- `outcome V1 V2`
abbrev pub outcome_says : List (List ℕ) → Result FrontStatement ℕ
outcome_says (first ∷ second ∷ []) = two_values (whole_number (spelled_number first)) (whole_number (spelled_number second))
outcome_says words = Err 3

-- `tree least1` and `tree least2`
abbrev pub least_says : List ℕ → Result FrontStatement ℕ
least_says kind =
    if bytes_eq kind (codes "least1") then Ok (says.Tree Least1)
    else if bytes_eq kind (codes "least2") then Ok (says.Tree Least2)
    else Err 3

abbrev pub as_gap : Result ℕ ℕ → Result FrontStatement ℕ
as_gap (Ok number) = Ok (says.Tree (Gap number))
as_gap (Err code) = Err code

-- these, and `tree gap I`, whose number is spelled as that of a cut
abbrev pub tree_says : List (List ℕ) → Result FrontStatement ℕ
tree_says (kind ∷ []) = least_says kind
tree_says (kind ∷ number ∷ []) = if bytes_eq kind (codes "gap") then as_gap (number_of_cut number) else Err 3
tree_says words = Err 3

abbrev pub front_word_says : FrontWord → List (List ℕ) → Result FrontStatement ℕ
front_word_says word.Front words = header_says words
front_word_says word.Outcome words = outcome_says words
front_word_says word.Tree words = tree_says words
front_word_says word.Foreign words = Ok says.Foreign

-- ---- what a line says

-- the first words that only one kind of certificate has
abbrev pub front_word_of : List ℕ → Option FrontWord
front_word_of first =
    if bytes_eq first (codes "front") then Some word.Front
    else if bytes_eq first (codes "outcome") then Some word.Outcome
    else if bytes_eq first (codes "tree") then Some word.Tree
    else if bytes_eq first (codes "cert") || bytes_eq first (codes "claim") || bytes_eq first (codes "ray") then Some word.Foreign
    else None

-- what a line that both kinds have says here
abbrev pub common_statement : Statement → FrontStatement
common_statement (common.Point named) = says.Point named
common_statement (common.Cut cut) = says.Cut cut
common_statement (common.Node node) = says.Node node
common_statement common.End = says.End
common_statement common.Header = says.Foreign
common_statement (common.Claims claim) = says.Foreign
common_statement (common.Ray named) = says.Foreign
common_statement common.Foreign = says.Foreign

abbrev pub common_says : Result Statement ℕ → Result FrontStatement ℕ
common_says (Ok statement) = Ok (common_statement statement)
common_says (Err code) = Err code

abbrev pub front_known_says : Option FrontWord → List ℕ → List (List ℕ) → Result FrontStatement ℕ
front_known_says None line words = common_says (line_says line)
front_known_says (Some known) line words = if begins_blank line then Err 2 else if ends_blank line then Err 3 else front_word_says known words

abbrev pub front_words_say : List ℕ → List (List ℕ) → Result FrontStatement ℕ
front_words_say line [] = common_says (line_says line)
front_words_say line (first ∷ words) = front_known_says (front_word_of first) line words

unfoldable pub front_line_says : List ℕ → Result FrontStatement ℕ
front_line_says line = front_words_say line (words_of line)

-- ---- which kind a text is of

abbrev pub has_front_word : List (List ℕ) → Bool
has_front_word [] = false
has_front_word (first ∷ words) = bytes_eq first (codes "front")

-- the first word of the first line is `front`
abbrev pub begin_front : List (List ℕ) → Bool
begin_front [] = false
begin_front (line ∷ lines) = has_front_word (words_of line)
