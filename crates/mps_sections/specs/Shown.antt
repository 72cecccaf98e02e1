-- What the reader's values stand for, and what one more clean line adds to what is stated.
use Rattle.std.specs.Prelude.{ℕ, ◌+◌, Bool, if◌then◌else◌, List, [], ◌∷◌, ◌++◌, length, map, codes, option_to_list, Option, None, Some}
use Rattle.mps_text.specs.Text.{Entry, Flaw}
use Rattle.mps_text.specs.Reading.{flaw_of}
use Rattle.mps_text.specs.declared.lines.LineFault.{LineFault}
use Rattle.lp_model.specs.declared.types.Sense.{Sense}
use Rattle.mps_fields.specs.Words.{is_key, word, section_of, line_kind}
use Rattle.mps_sections.specs.Statements.{read_pair, StatedModel, sense_on, objective_on, row_on, coefficients_in, range_on, bound_on}
use Rattle.mps_fields.specs.Fields.{column_pairs, set_pairs}
use Rattle.mps_sections.specs.declared.statements.RowNumber.{RowNumber}
use Rattle.mps_sections.specs.declared.statements.ColumnLines.{ColumnLines}
use Rattle.mps_sections.specs.Faults.{is_last}
use Rattle.mps_fields.specs.declared.words.LineKind.{LineKind}
use Rattle.mps_fields.specs.declared.words.LineKind.TheVariants.{Header, SenseLine, Row, Marker, Column, RightSide, Range, Bound, Stray}

abbrev pub flaw_shown : Option LineFault → Option Flaw
flaw_shown None = None
flaw_shown (Some f) = Some (flaw_of f)

-- ---- what one more line adds

abbrev pub with_more : List ColumnLines → List RowNumber → List ColumnLines
with_more [] more = []
with_more (c ∷ []) more = record { name = c.name; line = c.line; marked = c.marked; numbers = c.numbers ++ more } ∷ []
with_more (c ∷ next ∷ others) more = c ∷ with_more (next ∷ others) more

-- a line of the last column adds to its pairs, another one begins a column
abbrev pub with_line : List ColumnLines → List ℕ → ℕ → Bool → List RowNumber → List ColumnLines
with_line found name line marked more =
    if is_last found name then with_more found more
    else found ++ record { name = name; line = line; marked = marked; numbers = more } ∷ []

abbrev pub with_senses : List Sense → StatedModel → StatedModel
with_senses more s = record s { senses = s.senses ++ more }

abbrev pub after_kind : LineKind → StatedModel → Entry → StatedModel
after_kind Header s e = record s { section = section_of (word 0 e); headers = s.headers ++ option_to_list (section_of (word 0 e)); senses = s.senses ++ sense_on Header e }
after_kind SenseLine s e = with_senses (sense_on SenseLine e) s
after_kind Row s e = record s { objectives = s.objectives ++ objective_on Row e; rows = s.rows ++ row_on Row e }
after_kind Marker s e = record s { marked = is_key (codes "'INTORG'") (word 2 e) }
after_kind Column s e = record s {
  columns = with_line s.columns (word 0 e) e.line s.marked (map read_pair (column_pairs e));
  count = s.count + length (coefficients_in s.rows (map read_pair (column_pairs e)));
}
after_kind RightSide s e = record s { sides = s.sides ++ map read_pair (set_pairs e) }
after_kind Range s e = record s { ranges = s.ranges ++ range_on Range e }
after_kind Bound s e = record s { bounds = s.bounds ++ bound_on Bound e }
after_kind Stray s e = s

unfoldable pub after : StatedModel → Entry → StatedModel
after s e = after_kind (line_kind s.section e) s e
