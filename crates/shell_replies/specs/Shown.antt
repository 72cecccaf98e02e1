-- The point and the value that a reply shows, read from its bytes alone: its lines are the pieces between newlines, a
-- line's words the pieces between blanks, and a word's number is the one that it spells.
use Rattle.std.specs.Prelude.{ℕ, Bool, false, ◌&&◌, List, [], ◌∷◌, map, get_or, codes, pos, Option, Some, None}
use Rattle.std.specs.Str.{bytes_eq}
use Rattle.std.specs.List.{slice_split, filter}
use Rattle.frac128.specs.Rational.{ℚ, int}
use Rattle.frac_text.specs.Spelling.{Reading, Number, reading_of}
use Rattle.script_session.specs.Request.{Command}
use Rattle.text_lines.specs.Lines.{is_newline}
use Rattle.text_lines.specs.Words.{words_of}
use Rattle.lp_model.specs.Program.{Program, Point}

-- the words of each line of a reply
unfoldable pub lines_shown : List ℕ → List Command
lines_shown reply = map words_of (slice_split is_newline reply)

abbrev pub stated_number : Reading → Option ℚ
stated_number (Number x) = Some x
stated_number other = None

-- the number that word k, from 0, of the first of some lines spells, if it spells one
abbrev pub number_in_word : ℕ → List Command → Option ℚ
number_in_word k [] = None
number_in_word k (words ∷ more) = stated_number (reading_of (get_or words k []))

abbrev pub or_zero : Option ℚ → ℚ
or_zero None = int (pos 0)
or_zero (Some x) = x

-- a line of the words `x`, the name and one more
abbrev pub is_line_of : List ℕ → Command → Bool
is_line_of name (key ∷ column ∷ number ∷ []) = bytes_eq key (codes "x") && bytes_eq column name
is_line_of name words = false

-- the number that the first line of the name spells, 0 where the name has no line
abbrev pub number_among : List ℕ → List Command → ℚ
number_among name lines = or_zero (number_in_word 2 (filter (is_line_of name) lines))

-- the number that a reply shows for a column
abbrev pub shown_number : List ℕ → List ℕ → ℚ
shown_number name reply = number_among name (lines_shown reply)

-- the point that a reply shows: a number for each column of the model, in order
unfoldable pub point_shown : Program → List ℕ → Point
point_shown M reply = map (λ c. shown_number c.name reply) M.cols

-- the value that a reply shows: the number behind the first word of its first line
unfoldable pub value_shown : List ℕ → Option ℚ
value_shown reply = number_in_word 1 (lines_shown reply)

-- the gap that a reply shows, and the value behind it: the numbers behind the first word of its first line
unfoldable pub gap_shown : List ℕ → Option ℚ
gap_shown reply = number_in_word 1 (lines_shown reply)

unfoldable pub value_within_shown : List ℕ → Option ℚ
value_within_shown reply = number_in_word 2 (lines_shown reply)
