-- The lines of a column pass: its first one begins the column, the others add their numbers to it, and markers stand around an integer
-- one.
use Rattle.std.proofs.Common.{◌≡◌, ℕ, ◌+◌, ◌<◌, ◌≤◌, Bool, true, false, not, ◌||◌, ◌&&◌, List, [], ◌∷◌, ◌++◌, length, refl, ◌∙◌, ap}
use Rattle.std.specs.Prelude.{if◌then◌else◌, nat_le, nat_lt, bytes_eq, None, Some, codes}
use Rattle.std.proofs.lemmas.Bool.{or_parts, or_from, or_left, or_right, and_left, and_right, le-ltb, lt-leb, not_from_true}
use Rattle.std.proofs.lemmas.List.Folds.{list_any-append}
use Rattle.frac128.specs.Rational.{ℚ}
use Rattle.frac128.specs.Range.{Fits}
use Rattle.frac128.specs.Printing.{printed}
use Rattle.frac_text.specs.Parsing.{spelled_number}
use Rattle.mps_text.specs.Text.{Entry}
use Rattle.mps_fields.specs.Words.{is_key, line_kind}
use Rattle.mps_fields.specs.Numbers.{number_or_zero, is_not_number, is_too_wide}
use Rattle.mps_sections.specs.Statements.{StatedModel, is_numbered, is_column, coefficients_in}
use Rattle.mps_sections.specs.Faults.{least, tests_of, column_tests, is_known, is_last, numbers_of_last, code_in}
use Rattle.mps_fields.specs.Fields.{is_long_name}
use Rattle.mps_sections.specs.Shown.{with_more, with_line, after_kind, after}
use Rattle.mps_fields.specs.declared.words.Section.TheVariants.{Columns}
use Rattle.mps_fields.specs.declared.words.LineKind.{LineKind}
use Rattle.mps_fields.specs.declared.words.LineKind.TheVariants.{Column, Marker}
use Rattle.mps_sections.specs.declared.statements.RowNumber.{RowNumber}
use Rattle.mps_sections.specs.declared.statements.ColumnLines.{ColumnLines}
use Rattle.mps_sections.proofs.ListFacts.{is_last-more, numbers_of_last-more, with_more-more}
use Rattle.mps_writer.specs.Canonical.{entry_line, marker_line}
use Rattle.mps_writer.proofs.RecordLaws.{entry_of}
use Rattle.mps_writer.proofs.RowsBack.{none_from}
use Rattle.mps_writer.proofs.SetsBack.{number_read}
use Rattle.lp_model.specs.Limits.{col_limit}

-- ---- markers

abbrev pub marked_as : Bool → StatedModel → StatedModel
marked_as marked s = record s { marked = marked }

module _ (s : StatedModel) (number : ℕ) (there : s.section ≡ Some Columns) where
  abbrev pub opens : Entry
  opens = entry_of number (marker_line (codes "'INTORG'"))

  abbrev pub closes : Entry
  closes = entry_of number (marker_line (codes "'INTEND'"))

  pub opens_clean : s.marked ≡ false → code_in s opens ≡ None
  unfolding code_in is_key
  opens_clean out =
      ap (λ section. least (tests_of (line_kind section opens) s opens)) there
      ∙ ap (λ b. least ((18, not (if b then is_key (codes "'INTEND'") (codes "'INTORG'") else is_key (codes "'INTORG'") (codes "'INTORG'"))) ∷ [])) out

  pub opens_after : after s opens ≡ marked_as true s
  unfolding after is_key
  opens_after = ap (λ section. after_kind (line_kind section opens) s opens) there

  pub closes_clean : s.marked ≡ true → code_in s closes ≡ None
  unfolding code_in is_key
  closes_clean within =
      ap (λ section. least (tests_of (line_kind section closes) s closes)) there
      ∙ ap (λ b. least ((18, not (if b then is_key (codes "'INTEND'") (codes "'INTEND'") else is_key (codes "'INTORG'") (codes "'INTEND'"))) ∷ [])) within

  pub closes_after : after s closes ≡ marked_as false s
  unfolding after is_key
  closes_after = ap (λ section. after_kind (line_kind section closes) s closes) there

-- ---- numbers

abbrev pub beside : List ℕ → ℚ → RowNumber
beside row x = record { row = row; number = x }

abbrev pub with_numbers : ColumnLines → List RowNumber → ColumnLines
with_numbers c more = record { name = c.name; line = c.line; marked = c.marked; numbers = c.numbers ++ more }

no_last : (found : List ColumnLines) (name : List ℕ) → is_column found name ≡ false → is_last found name ≡ false
no_last [] name h = refl
no_last (c ∷ []) name h = (or_parts (bytes_eq c.name name) false h).0
no_last (c ∷ next ∷ more) name h = no_last (next ∷ more) name (or_parts (bytes_eq c.name name) (is_column (next ∷ more) name) h).1

module _ (s : StatedModel) (number : ℕ) (name row : List ℕ) (x : ℚ) (fits : Fits x) (there : s.section ≡ Some Columns) (unmarked : is_key (codes "'MARKER'") row ≡ false)
    (short : length name ≤ 255) (short_row : length row ≤ 255) (known : is_known s row ≡ true) (room : s.count + length (coefficients_in s.rows (beside row x ∷ [])) ≤ 50000) where
  abbrev pub line : Entry
  line = entry_of number (entry_line name row x)

  kind : line_kind s.section line ≡ Column
  kind = ap (λ section. line_kind section line) there ∙ ap (λ b. if b then Marker else Column) unmarked

  long : (is_long_name name || (is_long_name row || false)) ≡ false
  long = or_from (is_long_name name) (is_long_name row || false) (le-ltb 255 (length name) short) (or_from (is_long_name row) false (le-ltb 255 (length row) short_row) refl)

  unknown : (not (is_known s row) || false) ≡ false
  unknown = or_from (not (is_known s row)) false (not_from_true (is_known s row) known) refl

  wrong : (is_not_number (spelled_number (printed x)) || false) ≡ false
  wrong = ap (λ r. is_not_number r || false) (number_read x fits)

  wide : (is_too_wide (spelled_number (printed x)) || false) ≡ false
  wide = ap (λ r. is_too_wide r || false) (number_read x fits)

  many : nat_lt 50000 (s.count + length (coefficients_in s.rows (record { row = row; number = number_or_zero (spelled_number (printed x)) } ∷ []))) ≡ false
  many =
      ap (λ r. nat_lt 50000 (s.count + length (coefficients_in s.rows (record { row = row; number = number_or_zero r } ∷ [])))) (number_read x fits)
      ∙ le-ltb 50000 (s.count + length (coefficients_in s.rows (beside row x ∷ []))) room

  -- where the four tests of its place fail
  placed : (is_column s.columns name && not (is_last s.columns name)) ≡ false
      → (false || (is_last s.columns name && (is_numbered (numbers_of_last s.columns) row || false))) ≡ false
      → (not (is_column s.columns name) && nat_le (col_limit false) (length s.columns)) ≡ false → code_in s line ≡ None
  unfolding code_in
  placed returns again full =
      ap (λ (k : LineKind). least (tests_of k s line)) kind
      ∙ none_from (column_tests s line) (refl, (long, (unknown, (wrong, (wide, (returns, (again, (full, (many, tt)))))))))

  -- the first line of a column
  pub first_clean : is_column s.columns name ≡ false → length s.columns < col_limit false → code_in s line ≡ None
  first_clean new few =
      let last = no_last s.columns name new in
      placed (and_left (is_column s.columns name) (not (is_last s.columns name)) new) (and_left (is_last s.columns name) (is_numbered (numbers_of_last s.columns) row || false) last)
      (and_right (not (is_column s.columns name)) (nat_le (col_limit false) (length s.columns)) (lt-leb (col_limit false) (length s.columns) few))

  pub first_after : is_column s.columns name ≡ false
      → after s line ≡ record s { columns = s.columns ++ record { name = name; line = number; marked = s.marked; numbers = beside row x ∷ [] } ∷ []; count = s.count + length (coefficients_in s.rows (beside row x ∷ [])) }
  unfolding after
  first_after new =
      ap (λ (k : LineKind). after_kind k s line) kind
      ∙ ap (λ r. record s { columns = with_line s.columns name number s.marked (record { row = row; number = number_or_zero r } ∷ []); count = s.count + length (coefficients_in s.rows (record { row = row; number = number_or_zero r } ∷ [])) }) (number_read x fits)
      ∙ ap (λ b. record s { columns = if b then with_more s.columns (beside row x ∷ []) else s.columns ++ record { name = name; line = number; marked = s.marked; numbers = beside row x ∷ [] } ∷ []; count = s.count + length (coefficients_in s.rows (beside row x ∷ [])) }) (no_last s.columns name new)

  -- a further one
  module _ (done : List ColumnLines) (c : ColumnLines) (is : s.columns ≡ done ++ c ∷ []) (own : bytes_eq c.name name ≡ true) where
    last : is_last s.columns name ≡ true
    last = ap (λ (found : List ColumnLines). is_last found name) is ∙ is_last-more done c name ∙ own

    stands : is_column s.columns name ≡ true
    stands = ap (λ (found : List ColumnLines). is_column found name) is ∙ list_any-append (λ (d : ColumnLines). bytes_eq d.name name) done (c ∷ []) ∙ or_right (is_column done name) (bytes_eq c.name name || false) (or_left (bytes_eq c.name name) false own)

    pub more_clean : is_numbered c.numbers row ≡ false → code_in s line ≡ None
    more_clean new =
        let none : is_numbered (numbers_of_last s.columns) row ≡ false = ap (λ found. is_numbered found row) (ap numbers_of_last is ∙ numbers_of_last-more done c) ∙ new in
        placed (and_right (is_column s.columns name) (not (is_last s.columns name)) (not_from_true (is_last s.columns name) last))
        (and_right (is_last s.columns name) (is_numbered (numbers_of_last s.columns) row || false) (or_from (is_numbered (numbers_of_last s.columns) row) false none refl))
        (and_left (not (is_column s.columns name)) (nat_le (col_limit false) (length s.columns)) (not_from_true (is_column s.columns name) stands))

    pub more_after : after s line ≡ record s { columns = done ++ with_numbers c (beside row x ∷ []) ∷ []; count = s.count + length (coefficients_in s.rows (beside row x ∷ [])) }
    unfolding after
    more_after =
        ap (λ (k : LineKind). after_kind k s line) kind
        ∙ ap (λ r. record s { columns = with_line s.columns name number s.marked (record { row = row; number = number_or_zero r } ∷ []); count = s.count + length (coefficients_in s.rows (record { row = row; number = number_or_zero r } ∷ [])) }) (number_read x fits)
        ∙ ap (λ b. record s { columns = if b then with_more s.columns (beside row x ∷ []) else s.columns ++ record { name = name; line = number; marked = s.marked; numbers = beside row x ∷ [] } ∷ []; count = s.count + length (coefficients_in s.rows (beside row x ∷ [])) }) last
        ∙ ap (λ (found : List ColumnLines). record s { columns = with_more found (beside row x ∷ []); count = s.count + length (coefficients_in s.rows (beside row x ∷ [])) }) is
        ∙ ap (λ (found : List ColumnLines). record s { columns = found; count = s.count + length (coefficients_in s.rows (beside row x ∷ [])) }) (with_more-more done c (beside row x ∷ []))
