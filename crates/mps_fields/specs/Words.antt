-- Key words, and what a line is: by its first byte and the section that it stands in.
use Rattle.std.specs.Prelude.{ℕ, ◌-◌, Bool, true, false, ◌&&◌, ◌==◌, if◌then◌else◌, nat_le, List, [], length, map, get_or, codes, bytes_eq, Option, None, Some}
use Rattle.std.specs.List.{list_any}
use Rattle.mps_text.specs.Text.{Entry}
use Rattle.mps_fields.specs.declared.words.Section.{Section}
use Rattle.lp_model.specs.declared.types.Sense.{Sense}
use Rattle.lp_model.specs.declared.types.Sense.TheVariants.{Min, Max}
use Rattle.mps_fields.specs.declared.words.Section.TheVariants.{Name, Objsense, Rows, Columns, Rhs, Ranges, Bounds, Ended}
use Rattle.mps_fields.specs.declared.words.LineKind.{LineKind}
use Rattle.mps_fields.specs.declared.words.LineKind.TheVariants.{Header, SenseLine, Row, Marker, Column, RightSide, Range, Bound, Stray}
use Rattle.mps_fields.specs.declared.words.RowKind.{RowKind}
use Rattle.mps_fields.specs.declared.words.RowKind.TheVariants.{Free, AtMost, AtLeast, Equal}
use Rattle.mps_fields.specs.declared.words.BoundKind.{BoundKind}
use Rattle.mps_fields.specs.declared.words.BoundKind.TheVariants.{Lower, Upper, Fixed, Unbounded, NoLower, NoUpper, Binary, IntegerLower, IntegerUpper}

-- Key words are read in either case of letters.
abbrev pub upper_case : ℕ → ℕ
upper_case byte = if nat_le 97 byte && nat_le byte 122 then byte - 32 else byte

unfoldable pub is_key : List ℕ → List ℕ → Bool
is_key key word = bytes_eq (map upper_case word) key

abbrev pub among : List (List ℕ) → List ℕ → Bool
among words word = list_any (λ other. bytes_eq other word) words

-- a line's word by its place from 0
abbrev pub word : ℕ → Entry → List ℕ
word k e = get_or e.words k []

-- ---- sections

abbrev pub section_of : List ℕ → Option Section
section_of w =
    if is_key (codes "NAME") w then Some Name
    else if is_key (codes "OBJSENSE") w then Some Objsense
    else if is_key (codes "ROWS") w then Some Rows
    else if is_key (codes "COLUMNS") w then Some Columns
    else if is_key (codes "RHS") w then Some Rhs
    else if is_key (codes "RANGES") w then Some Ranges
    else if is_key (codes "BOUNDS") w then Some Bounds
    else if is_key (codes "ENDATA") w then Some Ended
    else None

-- the place of a section in the order: RHS, RANGES and BOUNDS share one
abbrev pub section_rank : Section → ℕ
section_rank Name = 1
section_rank Objsense = 2
section_rank Rows = 3
section_rank Columns = 4
section_rank Rhs = 5
section_rank Ranges = 5
section_rank Bounds = 5
section_rank Ended = 6

-- where the first section stands the second can no longer come: it is the same, or has its place before
abbrev pub bars : Section → Section → Bool
bars Rhs Ranges = false
bars Rhs Bounds = false
bars Ranges Rhs = false
bars Ranges Bounds = false
bars Bounds Rhs = false
bars Bounds Ranges = false
bars stands comes = nat_le (section_rank comes) (section_rank stands)

abbrev pub is_rows : Section → Bool
is_rows Rows = true
is_rows other = false

abbrev pub is_columns : Section → Bool
is_columns Columns = true
is_columns other = false

abbrev pub is_name_section : Section → Bool
is_name_section Name = true
is_name_section other = false

abbrev pub is_sense_section : Section → Bool
is_sense_section Objsense = true
is_sense_section other = false

abbrev pub is_ended : Option Section → Bool
is_ended (Some Ended) = true
is_ended other = false

-- ---- lines

-- a line of COLUMNS of three words, the second of which is the marker word
abbrev pub is_marker : Entry → Bool
is_marker e = length e.words == 3 && is_key (codes "'MARKER'") (word 1 e)

abbrev pub data_kind : Option Section → Entry → LineKind
data_kind (Some Objsense) e = SenseLine
data_kind (Some Rows) e = Row
data_kind (Some Columns) e = if is_marker e then Marker else Column
data_kind (Some Rhs) e = RightSide
data_kind (Some Ranges) e = Range
data_kind (Some Bounds) e = Bound
data_kind other e = Stray

abbrev pub line_kind : Option Section → Entry → LineKind
line_kind section e = if e.header then Header else data_kind section e

-- ---- senses, and types of rows and bounds

abbrev pub sense_of : List ℕ → Option Sense
sense_of w =
    if is_key (codes "MIN") w then Some Min
    else if is_key (codes "MINIMIZE") w then Some Min
    else if is_key (codes "MAX") w then Some Max
    else if is_key (codes "MAXIMIZE") w then Some Max
    else None

abbrev pub row_kind : List ℕ → Option RowKind
row_kind w =
    if is_key (codes "N") w then Some Free
    else if is_key (codes "L") w then Some AtMost
    else if is_key (codes "G") w then Some AtLeast
    else if is_key (codes "E") w then Some Equal
    else None

abbrev pub bound_kind : List ℕ → Option BoundKind
bound_kind w =
    if is_key (codes "LO") w then Some Lower
    else if is_key (codes "UP") w then Some Upper
    else if is_key (codes "FX") w then Some Fixed
    else if is_key (codes "FR") w then Some Unbounded
    else if is_key (codes "MI") w then Some NoLower
    else if is_key (codes "PL") w then Some NoUpper
    else if is_key (codes "BV") w then Some Binary
    else if is_key (codes "LI") w then Some IntegerLower
    else if is_key (codes "UI") w then Some IntegerUpper
    else None

-- a bound whose number is looked at
abbrev pub takes_number : BoundKind → Bool
takes_number Unbounded = false
takes_number NoLower = false
takes_number NoUpper = false
takes_number Binary = false
takes_number other = true
