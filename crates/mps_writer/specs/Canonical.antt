-- The canonical text of a model: its lines, section by section. A line is a header or data, of words with one blank between
-- them; data begin with a blank. Every section has its header, and every bound its line.
use Rattle.std.specs.Prelude.{ℕ, Bool, true, false, ◌&&◌, if◌then◌else◌, List, [], ◌∷◌, ◌++◌, map, flat_map, codes, pos, Option, None, Some}
use Rattle.std.specs.Ordering.{eq_by_cmp}
use Rattle.frac128.specs.Rational.{ℚ, int, neg_ℚ, ◌-ℚ◌, rational_cmp}
use Rattle.frac128.specs.Printing.{printed}
use Rattle.lp_model.specs.Program.{Program, constant}
use Rattle.lp_model.specs.Lawful.{row_name}
use Rattle.lp_model.specs.Edits.{is_zero}
use Rattle.lp_model.specs.declared.types.Sense.{Sense}
use Rattle.lp_model.specs.declared.types.Sense.TheVariants.{Min, Max}
use Rattle.lp_model.specs.declared.types.RowId.{RowId}
use Rattle.lp_model.specs.declared.types.Row.{Row}
use Rattle.lp_model.specs.declared.types.Col.{Col}
use Rattle.text_lines.specs.Words.{Words, spaced}

pub data WrittenLine : Type 0 where
  Header : (words : Words) → WrittenLine
  Data : (words : Words) → WrittenLine

-- ---- names and senses

abbrev pub sense_word : Sense → List ℕ
sense_word Min = codes "MIN"
sense_word Max = codes "MAX"

abbrev pub opening_lines : Sense → List WrittenLine
opening_lines sense = Header (codes "NAME" ∷ []) ∷ Header (codes "OBJSENSE" ∷ sense_word sense ∷ []) ∷ []

-- ---- ROWS: E where the sides are equal, L where there is a high one, else G

abbrev pub side_type : Option ℚ → ℚ → List ℕ
side_type None high = codes "L"
side_type (Some low) high = if eq_by_cmp rational_cmp low high then codes "E" else codes "L"

abbrev pub row_type : Option ℚ → Option ℚ → List ℕ
row_type lo None = codes "G"
row_type lo (Some high) = side_type lo high

abbrev pub row_line : Row → WrittenLine
row_line r = Data (row_type r.lo r.hi ∷ r.name ∷ [])

abbrev pub objective_line : List ℕ → WrittenLine
objective_line name = Data (codes "N" ∷ name ∷ [])

abbrev pub rows_lines : Program → List WrittenLine
rows_lines M = Header (codes "ROWS" ∷ []) ∷ objective_line M.obj ∷ objective_line M.obj2 ∷ map row_line M.rows

-- ---- COLUMNS: one number on each line, none of them 0 but for a column that has none

abbrev pub entry_line : List ℕ → List ℕ → ℚ → WrittenLine
entry_line first name x = Data (first ∷ name ∷ printed x ∷ [])

-- a line with the number, where that is not 0
abbrev pub number_line : List ℕ → List ℕ → ℚ → List WrittenLine
number_line first name x = if is_zero x then [] else entry_line first name x ∷ []

abbrev pub entry_lines : Program → Col → List WrittenLine
entry_lines M c = map (λ (e : RowId × ℚ). entry_line c.name (row_name M e.0.0) e.1) c.rows

abbrev pub number_lines : Program → Col → List WrittenLine
number_lines M c = number_line c.name M.obj c.cost ++ (number_line c.name M.obj2 c.cost2 ++ entry_lines M c)

abbrev pub is_none : {A : Type 0} → List A → Bool
is_none [] = true
is_none (x ∷ xs) = false

abbrev pub has_no_number : Col → Bool
has_no_number c = is_zero c.cost && (is_zero c.cost2 && is_none c.rows)

-- a column without numbers has its cost, 0
abbrev pub own_lines : Program → Col → List WrittenLine
own_lines M c = if has_no_number c then entry_line c.name M.obj c.cost ∷ [] else number_lines M c

abbrev pub marker_line : List ℕ → WrittenLine
marker_line word = Data (codes "M" ∷ codes "'MARKER'" ∷ word ∷ [])

-- an integer column stands between its own markers
abbrev pub column_lines : Program → Col → List WrittenLine
column_lines M c =
    if c.int then marker_line (codes "'INTORG'") ∷ (own_lines M c ++ marker_line (codes "'INTEND'") ∷ [])
    else own_lines M c

abbrev pub columns_lines : Program → List WrittenLine
columns_lines M = Header (codes "COLUMNS" ∷ []) ∷ flat_map (column_lines M) M.cols

-- ---- RHS: minus each constant, then the high side of each row, the low one where it has no other

abbrev pub right_side : Option ℚ → Option ℚ → ℚ
right_side lo (Some high) = high
right_side (Some low) None = low
right_side None None = int (pos 0)

abbrev pub rhs_line : Row → List WrittenLine
rhs_line r = number_line (codes "RHS") r.name (right_side r.lo r.hi)

abbrev pub rhs_lines : Program → List WrittenLine
rhs_lines M =
    Header (codes "RHS" ∷ [])
    ∷ (number_line (codes "RHS") M.obj (neg_ℚ (constant M 1)) ++ (number_line (codes "RHS") M.obj2 (neg_ℚ (constant M 2)) ++ flat_map rhs_line M.rows))

-- ---- RANGES: the distance of two sides, where it is not 0

abbrev pub range_line_of : List ℕ → Option ℚ → Option ℚ → List WrittenLine
range_line_of name (Some low) (Some high) = number_line (codes "RNG") name (high -ℚ low)
range_line_of name lo hi = []

abbrev pub range_line : Row → List WrittenLine
range_line r = range_line_of r.name r.lo r.hi

abbrev pub ranges_lines : Program → List WrittenLine
ranges_lines M = Header (codes "RANGES" ∷ []) ∷ flat_map range_line M.rows

-- ---- BOUNDS: the lower bound or that there is none, then the same of the upper one

abbrev pub lower_line : List ℕ → Option ℚ → WrittenLine
lower_line name (Some x) = Data (codes "LO" ∷ codes "BND" ∷ name ∷ printed x ∷ [])
lower_line name None = Data (codes "MI" ∷ codes "BND" ∷ name ∷ [])

abbrev pub upper_line : List ℕ → Option ℚ → WrittenLine
upper_line name (Some x) = Data (codes "UP" ∷ codes "BND" ∷ name ∷ printed x ∷ [])
upper_line name None = Data (codes "PL" ∷ codes "BND" ∷ name ∷ [])

abbrev pub bound_lines : Col → List WrittenLine
bound_lines c = lower_line c.name c.lo ∷ upper_line c.name c.up ∷ []

abbrev pub bounds_lines : Program → List WrittenLine
bounds_lines M = Header (codes "BOUNDS" ∷ []) ∷ flat_map bound_lines M.cols

-- ---- the text

abbrev pub canonical_lines : Program → List WrittenLine
canonical_lines M =
    opening_lines M.sense ++ (rows_lines M ++ (columns_lines M ++ (rhs_lines M ++ (ranges_lines M ++ (bounds_lines M ++ Header (codes "ENDATA" ∷ []) ∷ [])))))

abbrev pub written_line_text : WrittenLine → List ℕ
written_line_text (Header []) = []
written_line_text (Header (word ∷ words)) = word ++ spaced words
written_line_text (Data words) = spaced words

-- a newline behind each
abbrev pub written_text : List WrittenLine → List ℕ
written_text [] = []
written_text (line ∷ lines) = written_line_text line ++ 10 ∷ written_text lines

unfoldable pub canonical_text : Program → List ℕ
canonical_text M = written_text (canonical_lines M)
