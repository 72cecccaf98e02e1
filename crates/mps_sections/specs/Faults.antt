-- The faults of lines. What a line is refused for depends on what the entries before it state; the least code counts.
use Rattle.std.specs.Prelude.{◌≡◌, ℕ, ◌+◌, Bool, true, false, not, ◌&&◌, ◌||◌, if◌then◌else◌, nat_le, nat_lt, List, [], ◌∷◌, ◌++◌, length, map, codes, bytes_eq, Option, None, Some, Ok, Err}
use Rattle.std.specs.List.{list_any}
use Rattle.mps_text.specs.Text.{Entry, Flaw, Item}
use Rattle.lp_model.specs.Limits.{row_limit, col_limit, entry_limit}
use Rattle.lp_model.specs.declared.types.Sense.{Sense}
use Rattle.mps_fields.specs.Fields.{has_count, is_long_name, is_unknown_sense, has_unknown_sense, has_twice, has_long, has_not_number, has_too_wide, is_end, Pair, column_pairs, set_pairs, bound_column, bound_field}
use Rattle.mps_fields.specs.Words.{is_key, among, word, section_of, section_rank, bars, is_rows, is_columns, is_name_section, is_sense_section, line_kind, sense_of, row_kind, bound_kind, takes_number}
use Rattle.mps_fields.specs.Numbers.{limit_of, limit, is_not_number, is_too_wide, is_misplaced}
use Rattle.mps_sections.specs.Statements.{is_row_name, read_pair, StatedModel, is_column, is_numbered, is_ranged, coefficients_in, stated}
use Rattle.mps_sections.specs.declared.statements.RowNumber.{RowNumber}
use Rattle.mps_sections.specs.declared.statements.RangeLine.{RangeLine}
use Rattle.mps_sections.specs.declared.statements.ColumnLines.{ColumnLines}
use Rattle.mps_fields.specs.declared.words.Section.{Section}
use Rattle.mps_fields.specs.declared.words.LineKind.{LineKind}
use Rattle.mps_fields.specs.declared.words.LineKind.TheVariants.{Header, SenseLine, Row, Marker, Column, RightSide, Range, Bound, Stray}
use Rattle.mps_fields.specs.declared.words.RowKind.{RowKind}
use Rattle.mps_fields.specs.declared.words.RowKind.TheVariants.{Free}
use Rattle.mps_fields.specs.declared.words.BoundKind.{BoundKind}

-- a code, and whether the line has that fault
abbrev pub Test : Type 0
Test = ℕ × Bool

-- the first code whose test holds
abbrev pub least : List Test → Option ℕ
least [] = None
least (test ∷ more) = if test.1 then Some test.0 else least more

-- ---- headers

-- the section's own header, or that of a later one, stands before
abbrev pub is_late : Section → StatedModel → Bool
is_late section s = list_any (λ stands. bars stands section) s.headers

-- COLUMNS needs ROWS, and the sections behind it need both
abbrev pub lacks_section : Section → StatedModel → Bool
lacks_section section s = (nat_lt 3 (section_rank section) && not (list_any is_rows s.headers)) || (nat_lt 4 (section_rank section) && not (list_any is_columns s.headers))

-- how many fields a header but that of NAME may have: OBJSENSE has room for the sense
abbrev pub most_fields : Section → ℕ
most_fields section = if is_sense_section section then 2 else 1

abbrev pub section_tests : Option Section → StatedModel → Entry → List Test
-- an unknown section word
section_tests None s e = (3, true) ∷ []
section_tests (Some section) s e =
    -- a section out of order or twice, or one that it needs is missing
    (4, is_late section s || lacks_section section s)
    -- further fields, which NAME alone may have
    ∷ (6, not (is_name_section section) && not (has_count e 1 (most_fields section)))
    -- an unknown sense
    ∷ (8, is_sense_section section && has_unknown_sense e)
    ∷ []

-- ---- OBJSENSE

abbrev pub has_sense : List Sense → Bool
has_sense [] = false
has_sense (sense ∷ more) = true

abbrev pub sense_tests : StatedModel → Entry → List Test
sense_tests s e =
    -- a second sense
    (5, has_sense s.senses)
    -- the number of fields
    ∷ (6, not (has_count e 1 1))
    -- an unknown sense
    ∷ (8, is_unknown_sense (sense_of (word 0 e)))
    ∷ []

-- ---- ROWS

-- a row, with sides or of type N, has the name
abbrev pub is_known : StatedModel → List ℕ → Bool
is_known s name = is_row_name s.rows name || among s.objectives name

abbrev pub is_unknown_kind : Option RowKind → Bool
is_unknown_kind None = true
is_unknown_kind (Some kind) = false

abbrev pub has_sides : Option RowKind → Bool
has_sides None = false
has_sides (Some Free) = false
has_sides (Some kind) = true

abbrev pub row_tests : StatedModel → Entry → List Test
row_tests s e =
    -- the number of fields
    (6, not (has_count e 2 2))
    ∷ (7, is_long_name (word 1 e))
    -- an unknown row type
    ∷ (8, is_unknown_kind (row_kind (word 0 e)))
    -- a row name twice
    ∷ (9, is_known s (word 1 e))
    -- the 1,001st row
    ∷ (10, has_sides (row_kind (word 0 e)) && nat_le (row_limit false) (length s.rows))
    ∷ []

-- ---- COLUMNS

abbrev pub marker_tests : StatedModel → Entry → List Test
marker_tests s e =
    -- INTORG within, INTEND without, or another marker word
    (18, not (if s.marked then is_key (codes "'INTEND'") (word 2 e) else is_key (codes "'INTORG'") (word 2 e)))
    ∷ []

abbrev pub has_unknown : StatedModel → List Pair → Bool
has_unknown s found = list_any (λ p. not (is_known s p.row)) found

-- a number stands beside a row of some pairs already
abbrev pub has_again : List RowNumber → List Pair → Bool
has_again earlier found = list_any (λ p. is_numbered earlier p.row) found

-- the last column has this name
abbrev pub is_last : List ColumnLines → List ℕ → Bool
is_last [] name = false
is_last (c ∷ []) name = bytes_eq c.name name
is_last (c ∷ next ∷ more) name = is_last (next ∷ more) name

abbrev pub numbers_of_last : List ColumnLines → List RowNumber
numbers_of_last [] = []
numbers_of_last (c ∷ []) = c.numbers
numbers_of_last (c ∷ next ∷ more) = numbers_of_last (next ∷ more)

-- the pairs of a line of COLUMNS, RHS or RANGES
abbrev pub pair_tests : StatedModel → List Pair → List Test
pair_tests s found =
    -- an unknown row
    (11, has_unknown s found)
    ∷ (12, has_not_number found)
    ∷ (13, has_too_wide found)
    ∷ []

-- a line of a column by the columns before it
abbrev pub place_tests : StatedModel → List ℕ → List Pair → List Test
place_tests s name found =
    -- a column that returns after another
    (14, is_column s.columns name && not (is_last s.columns name))
    -- one row twice in one column, whose earlier lines are the last ones
    ∷ (15, has_twice found || (is_last s.columns name && has_again (numbers_of_last s.columns) found))
    -- the 4,001st column
    ∷ (16, not (is_column s.columns name) && nat_le (col_limit false) (length s.columns))
    -- the 50,001st non-zero number beside a row with sides
    ∷ (17, nat_lt (entry_limit false) (s.count + length (coefficients_in s.rows (map read_pair found))))
    ∷ []

abbrev pub column_tests : StatedModel → Entry → List Test
column_tests s e =
    -- the number of fields
    (6, not (has_count e 3 3 || has_count e 5 5))
    ∷ (7, is_long_name (word 0 e) || has_long (column_pairs e))
    ∷ (pair_tests s (column_pairs e) ++ place_tests s (word 0 e) (column_pairs e))

-- ---- RHS and RANGES

-- a line by itself, and the rows and numbers of its pairs
abbrev pub set_tests : StatedModel → Entry → List Test
set_tests s e =
    -- the number of fields
    (6, not (has_count e 2 5))
    ∷ (7, has_long (set_pairs e))
    ∷ pair_tests s (set_pairs e)

abbrev pub rhs_tests : StatedModel → Entry → List Test
rhs_tests s e =
    set_tests s e
    -- one row twice in RHS
    ++ (22, has_twice (set_pairs e) || has_again s.sides (set_pairs e))
    ∷ []

-- a number of RANGES stands beside a row of some pairs already
abbrev pub is_ranged_again : List RangeLine → List Pair → Bool
is_ranged_again earlier found = list_any (λ p. is_ranged earlier p.row) found

-- a row without sides has the name: it is of type N
abbrev pub is_free_row : StatedModel → List ℕ → Bool
is_free_row s name = is_known s name && not (is_row_name s.rows name)

abbrev pub has_free_row : StatedModel → List Pair → Bool
has_free_row s found = list_any (λ p. is_free_row s p.row) found

abbrev pub range_tests : StatedModel → Entry → List Test
range_tests s e =
    set_tests s e
    -- one row twice in RANGES
    ++ (22, has_twice (set_pairs e) || is_ranged_again s.ranges (set_pairs e))
    -- a row of type N
    ∷ (23, has_free_row s (set_pairs e))
    ∷ []

-- ---- BOUNDS

abbrev pub bound_tests : Option BoundKind → StatedModel → Entry → List Test
-- an unknown bound type
bound_tests None s e = (20, true) ∷ []
bound_tests (Some kind) s e =
    -- the number of fields
    (6, takes_number kind && not (has_count e 3 4))
    ∷ (7, is_long_name (bound_column kind e))
    ∷ (12, takes_number kind && is_not_number (limit_of (bound_field e)))
    ∷ (13, takes_number kind && is_too_wide (limit_of (bound_field e)))
    -- an unknown column
    ∷ (19, not (is_column s.columns (bound_column kind e)))
    -- an infinite number where none may stand
    ∷ (21, is_misplaced kind (limit (bound_field e)))
    ∷ []

-- ---- the code of a line

abbrev pub tests_of : LineKind → StatedModel → Entry → List Test
tests_of Header s e = section_tests (section_of (word 0 e)) s e
tests_of SenseLine s e = sense_tests s e
tests_of Row s e = row_tests s e
tests_of Marker s e = marker_tests s e
tests_of Column s e = column_tests s e
tests_of RightSide s e = rhs_tests s e
tests_of Range s e = range_tests s e
tests_of Bound s e = (6, not (has_count e 2 4)) ∷ bound_tests (bound_kind (word 0 e)) s e
-- data where no section takes it
tests_of Stray s e = (5, true) ∷ []

-- the code of a line behind what is stated, if it has one
unfoldable pub code_in : StatedModel → Entry → Option ℕ
code_in s e = least (tests_of (line_kind s.section e) s e)

unfoldable pub code_at : List Entry → Entry → Option ℕ
code_at before e = code_in (stated before) e

-- Entries, behind others, none of which is faulty or ends the text.
abbrev pub Clean : List Entry → List Entry → Type 0
Clean before [] = Unit {0}
Clean before (e ∷ more) = (code_at before e ≡ None) × (is_end e ≡ false) × Clean (before ++ e ∷ []) more

-- the fault of an item behind some entries
abbrev pub IsFlawed : List Entry → Item → Flaw → Type 0
IsFlawed before (Ok e) flaw = (code_at before e ≡ Some flaw.code) × (flaw.line ≡ e.line)
IsFlawed before (Err own) flaw = flaw ≡ own

-- Of the items behind the entries seen, the first faulty one, and its least code: the entries before it are clean.
pub record HasFault (seen : List Entry) (items : List Item) (flaw : Flaw) : Type 0 where
  pub before : List Entry
  pub item : Item
  pub after : List Item
  pub parts : items ≡ map Ok before ++ item ∷ after
  pub clean : Clean seen before
  pub flawed : IsFlawed (seen ++ before) item flaw

-- No line is faulty, and the last entry, which is clean too, is ENDATA.
pub record IsWholeText (seen : List Entry) (items : List Item) (entries : List Entry) : Type 0 where
  pub before : List Entry
  pub last : Entry
  pub after : List Item
  pub parts : items ≡ map Ok before ++ Ok last ∷ after
  pub clean : Clean seen before
  pub clean_last : code_at (seen ++ before) last ≡ None
  pub ended : is_end last ≡ true
  pub all : entries ≡ seen ++ before ++ last ∷ []

-- No line is faulty, and there is no ENDATA.
pub record IsCut (seen : List Entry) (items : List Item) : Type 0 where
  pub before : List Entry
  pub parts : items ≡ map Ok before
  pub clean : Clean seen before

-- Where reading entry by entry comes to, behind the entries seen. What a reader keeps: this stays the same.
pub data End : Type 0 where
  Flawed : (flaw : Flaw) → End
  Whole : (entries : List Entry) → End
  Cut : End

abbrev pub past : Option ℕ → Bool → List Entry → Entry → End → End
past (Some code) ended seen e behind = Flawed (record { line = e.line; code = code })
past None true seen e behind = Whole (seen ++ e ∷ [])
past None false seen e behind = behind

unfoldable pub reached : List Entry → List Item → End
reached seen [] = Cut
reached seen (Ok e ∷ more) = past (code_at seen e) (is_end e) seen e (reached (seen ++ e ∷ []) more)
reached seen (Err flaw ∷ more) = Flawed flaw
