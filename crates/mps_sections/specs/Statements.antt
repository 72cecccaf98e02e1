-- What the entries of a text state: each list is gathered from all of them, each entry giving its part by its kind.
use Rattle.std.specs.Prelude.{ℕ, Bool, false, not, ◌&&◌, if◌then◌else◌, List, [], ◌∷◌, ◌++◌, length, map, filter, fold, codes, bytes_eq, option_to_list, Option, None, Some}
use Rattle.std.specs.List.{list_any}
use Rattle.mps_text.specs.Text.{Entry}
use Rattle.lp_model.specs.declared.types.Sense.{Sense}
use Rattle.lp_model.specs.declared.types.Sense.TheVariants.{Min}
use Rattle.mps_fields.specs.Fields.{Pair, column_pairs, set_pairs, bound_column, bound_field, header_sense}
use Rattle.mps_fields.specs.Words.{is_key, among, word, section_of, line_kind, sense_of, row_kind, bound_kind}
use Rattle.mps_fields.specs.Numbers.{field_number, limit}
use Rattle.lp_model.specs.Edits.{is_zero}
use Rattle.mps_fields.specs.declared.words.Section.{Section}
use Rattle.mps_fields.specs.declared.words.LineKind.{LineKind}
use Rattle.mps_fields.specs.declared.words.LineKind.TheVariants.{Header, SenseLine, Row, Marker, Column, RightSide, Range, Bound}
use Rattle.mps_fields.specs.declared.words.RowKind.{RowKind}
use Rattle.mps_fields.specs.declared.words.RowKind.TheVariants.{Free, AtMost, AtLeast, Equal}
use Rattle.mps_fields.specs.declared.words.BoundKind.{BoundKind}
use Rattle.mps_sections.specs.declared.statements.RowLine.{RowLine}
use Rattle.mps_sections.specs.declared.statements.RowNumber.{RowNumber}
use Rattle.mps_sections.specs.declared.statements.RangeLine.{RangeLine}
use Rattle.mps_sections.specs.declared.statements.ColumnLines.{ColumnLines}
use Rattle.mps_sections.specs.declared.statements.BoundLine.{BoundLine}
use Rattle.mps_sections.specs.declared.statements.Sections.{Sections}

-- ---- gathering: what each entry gives, by itself and by the entries before it

unfoldable pub gathered_behind : {A : Type 0} → (List Entry → Entry → List A) → List Entry → List Entry → List A
gathered_behind part before [] = []
gathered_behind part before (e ∷ more) = part before e ++ gathered_behind part (before ++ e ∷ []) more

abbrev pub gathered : {A : Type 0} → (List Entry → Entry → List A) → List Entry → List A
gathered part entries = gathered_behind part [] entries

-- ---- sections

-- the section that follows some entries: that of their last header
abbrev pub section_behind : List Entry → Option Section
section_behind before = fold (λ section e. if e.header then section_of (word 0 e) else section) None before

abbrev pub kind_of : List Entry → Entry → LineKind
kind_of before e = line_kind (section_behind before) e

abbrev pub header_on : LineKind → Entry → List Section
header_on Header e = option_to_list (section_of (word 0 e))
header_on kind e = []

abbrev pub headers : List Entry → List Section
headers = gathered (λ before e. header_on (kind_of before e) e)

-- ---- OBJSENSE

abbrev pub sense_on : LineKind → Entry → List Sense
sense_on Header e = option_to_list (header_sense (section_of (word 0 e)) e)
sense_on SenseLine e = option_to_list (sense_of (word 0 e))
sense_on kind e = []

-- the senses, of which a text without fault has one at most
abbrev pub senses : List Entry → List Sense
senses = gathered (λ before e. sense_on (kind_of before e) e)

-- MIN where none stands
abbrev pub stated_sense : List Sense → Sense
stated_sense [] = Min
stated_sense (sense ∷ more) = sense

-- ---- ROWS

abbrev pub as_objective : Option RowKind → List ℕ → List (List ℕ)
as_objective (Some Free) name = name ∷ []
as_objective other name = []

abbrev pub as_row : Option RowKind → List ℕ → List RowLine
as_row (Some AtMost) name = record { name = name; kind = AtMost } ∷ []
as_row (Some AtLeast) name = record { name = name; kind = AtLeast } ∷ []
as_row (Some Equal) name = record { name = name; kind = Equal } ∷ []
as_row other name = []

abbrev pub objective_on : LineKind → Entry → List (List ℕ)
objective_on Row e = as_objective (row_kind (word 0 e)) (word 1 e)
objective_on kind e = []

abbrev pub row_on : LineKind → Entry → List RowLine
row_on Row e = as_row (row_kind (word 0 e)) (word 1 e)
row_on kind e = []

-- the rows of type N
abbrev pub objectives : List Entry → List (List ℕ)
objectives = gathered (λ before e. objective_on (kind_of before e) e)

-- the rows of type L, G and E
abbrev pub rows : List Entry → List RowLine
rows = gathered (λ before e. row_on (kind_of before e) e)

-- the names of the rows with sides
abbrev pub stated_row_names : List RowLine → List (List ℕ)
stated_row_names sided = map (λ r. r.name) sided

-- a row has the name
abbrev pub is_row_name : List RowLine → List ℕ → Bool
is_row_name sided name = list_any (λ r. bytes_eq r.name name) sided

-- ---- pairs of a row and a number

-- a pair with its number read
abbrev pub read_pair : Pair → RowNumber
read_pair p = record { row = p.row; number = field_number p.number }

-- a number stands beside the row
abbrev pub is_numbered : List RowNumber → List ℕ → Bool
is_numbered found row = list_any (λ p. bytes_eq p.row row) found

-- ---- COLUMNS

abbrev pub marker_on : LineKind → Entry → List (List ℕ)
marker_on Marker e = word 2 e ∷ []
marker_on kind e = []

-- the last marker is INTORG
abbrev pub is_marked : List Entry → Bool
is_marked before = fold (λ marked w. is_key (codes "'INTORG'") w) false (gathered (λ earlier e. marker_on (kind_of earlier e) e) before)

abbrev pub column_name_on : LineKind → Entry → List (List ℕ)
column_name_on Column e = word 0 e ∷ []
column_name_on kind e = []

abbrev pub stated_column_names : List Entry → List (List ℕ)
stated_column_names = gathered (λ before e. column_name_on (kind_of before e) e)

-- the first line of a column: its name, its number, and whether it stands between markers
pub record FirstLine : Type 0 where
  pub name : List ℕ
  pub line : ℕ
  pub marked : Bool

abbrev pub first_on : LineKind → Entry → Bool → Bool → List FirstLine
first_on Column e seen marked = if seen then [] else record { name = word 0 e; line = e.line; marked = marked } ∷ []
first_on kind e seen marked = []

abbrev pub first_lines : List Entry → List FirstLine
first_lines = gathered (λ before e. first_on (kind_of before e) e (among (stated_column_names before) (word 0 e)) (is_marked before))

abbrev pub column_pairs_on : LineKind → Entry → List Pair
column_pairs_on Column e = column_pairs e
column_pairs_on kind e = []

-- the numbers beside rows of the lines with a column's name
abbrev pub numbers_of_column : List Entry → List ℕ → List RowNumber
numbers_of_column entries name = gathered (λ before e. if bytes_eq (word 0 e) name then map read_pair (column_pairs_on (kind_of before e) e) else []) entries

-- a column with the numbers of all its lines
abbrev pub column_at : List Entry → FirstLine → ColumnLines
column_at entries f = record { name = f.name; line = f.line; marked = f.marked; numbers = numbers_of_column entries f.name }

abbrev pub columns : List Entry → List ColumnLines
columns entries = map (column_at entries) (first_lines entries)

-- a column has the name
abbrev pub is_column : List ColumnLines → List ℕ → Bool
is_column found name = list_any (λ c. bytes_eq c.name name) found

-- the non-zero numbers of some pairs that stand beside rows with sides
abbrev pub is_coefficient : List RowLine → RowNumber → Bool
is_coefficient sided p = is_row_name sided p.row && not (is_zero p.number)

abbrev pub coefficients_in : List RowLine → List RowNumber → List RowNumber
coefficients_in sided found = filter (is_coefficient sided) found

abbrev pub coefficients : List Entry → List RowNumber
coefficients = gathered (λ before e. coefficients_in (rows before) (map read_pair (column_pairs_on (kind_of before e) e)))

-- ---- RHS

abbrev pub rhs_pairs_on : LineKind → Entry → List Pair
rhs_pairs_on RightSide e = set_pairs e
rhs_pairs_on kind e = []

abbrev pub right_sides : List Entry → List RowNumber
right_sides = gathered (λ before e. map read_pair (rhs_pairs_on (kind_of before e) e))

-- ---- RANGES

-- a pair with its number read, and its line
abbrev pub read_range : ℕ → Pair → RangeLine
read_range line p = record { row = p.row; number = field_number p.number; line = line }

abbrev pub range_on : LineKind → Entry → List RangeLine
range_on Range e = map (read_range e.line) (set_pairs e)
range_on kind e = []

abbrev pub ranges : List Entry → List RangeLine
ranges = gathered (λ before e. range_on (kind_of before e) e)

-- a number of RANGES stands beside the row
abbrev pub is_ranged : List RangeLine → List ℕ → Bool
is_ranged found row = list_any (λ r. bytes_eq r.row row) found

-- ---- BOUNDS

abbrev pub as_bound : Option BoundKind → Entry → List BoundLine
as_bound None e = []
as_bound (Some kind) e = record { column = bound_column kind e; kind = kind; limit = limit (bound_field e) } ∷ []

abbrev pub bound_on : LineKind → Entry → List BoundLine
bound_on Bound e = as_bound (bound_kind (word 0 e)) e
bound_on kind e = []

abbrev pub bounds : List Entry → List BoundLine
bounds = gathered (λ before e. bound_on (kind_of before e) e)

-- ---- all that some entries state

pub record StatedModel : Type 0 where
  pub section : Option Section
  pub headers : List Section
  pub senses : List Sense
  pub objectives : List (List ℕ)
  pub rows : List RowLine
  pub columns : List ColumnLines
  pub marked : Bool
  -- how many non-zero numbers stand beside rows with sides
  pub count : ℕ
  pub sides : List RowNumber
  pub ranges : List RangeLine
  pub bounds : List BoundLine

unfoldable pub stated : List Entry → StatedModel
stated entries = record {
  section = section_behind entries;
  headers = headers entries;
  senses = senses entries;
  objectives = objectives entries;
  rows = rows entries;
  columns = columns entries;
  marked = is_marked entries;
  count = length (coefficients entries);
  sides = right_sides entries;
  ranges = ranges entries;
  bounds = bounds entries;
}

-- the lists of it that a model is made of
abbrev pub sections_in : StatedModel → Sections
sections_in s = record { sense = stated_sense s.senses; objectives = s.objectives; rows = s.rows; columns = s.columns; sides = s.sides; ranges = s.ranges; bounds = s.bounds }

abbrev pub stated_sections : List Entry → Sections
stated_sections entries = sections_in (stated entries)
