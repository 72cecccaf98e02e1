-- A line of RHS or RANGES with one number passes, and states the number beside the row.
use Rattle.std.proofs.Common.{◌≡◌, ℕ, ◌≤◌, true, false, not, ◌||◌, ◌&&◌, List, [], ◌∷◌, ◌++◌, length, refl, ◌∙◌, ap}
use Rattle.std.specs.Prelude.{None, Some, Ok}
use Rattle.std.proofs.lemmas.Bool.{or_from, le-ltb, not_from_true}
use Rattle.frac128.specs.Rational.{ℚ}
use Rattle.frac128.specs.Range.{Fits}
use Rattle.frac128.specs.Printing.{printed}
use Rattle.frac_text.specs.Parsing.{parsed, spelled_number}
use Rattle.frac_text.proofs.PrintedReads.{reading_of-printed}
use Rattle.mps_text.specs.Text.{Entry}
use Rattle.mps_fields.specs.Words.{line_kind}
use Rattle.mps_fields.specs.Numbers.{number_or_zero, is_not_number, is_too_wide}
use Rattle.mps_sections.specs.Statements.{StatedModel, is_numbered, is_ranged, is_row_name}
use Rattle.mps_sections.specs.Faults.{least, tests_of, rhs_tests, range_tests, is_known, is_free_row, code_in}
use Rattle.mps_fields.specs.Fields.{is_long_name, is_end}
use Rattle.mps_sections.specs.Shown.{after_kind, after}
use Rattle.mps_fields.specs.declared.words.Section.TheVariants.{Rhs, Ranges}
use Rattle.mps_writer.specs.Canonical.{entry_line}
use Rattle.mps_writer.proofs.RecordLaws.{entry_of}
use Rattle.mps_writer.proofs.RowsBack.{none_from}

-- what is printed is read
pub number_read : (x : ℚ) → Fits x → spelled_number (printed x) ≡ Ok x
number_read x fits = ap parsed (reading_of-printed x fits)

module _ (s : StatedModel) (number : ℕ) (set name : List ℕ) (x : ℚ) (fits : Fits x) (short : length name ≤ 255) (known : is_known s name ≡ true) where
  abbrev pub line : Entry
  line = entry_of number (entry_line set name x)

  long : (is_long_name name || false) ≡ false
  long = or_from (is_long_name name) false (le-ltb 255 (length name) short) refl

  unknown : (not (is_known s name) || false) ≡ false
  unknown = or_from (not (is_known s name)) false (not_from_true (is_known s name) known) refl

  wrong : (is_not_number (spelled_number (printed x)) || false) ≡ false
  wrong = ap (λ r. is_not_number r || false) (number_read x fits)

  wide : (is_too_wide (spelled_number (printed x)) || false) ≡ false
  wide = ap (λ r. is_too_wide r || false) (number_read x fits)

  -- in RHS
  pub rhs_clean : s.section ≡ Some Rhs → is_numbered s.sides name ≡ false → code_in s line ≡ None
  unfolding code_in
  rhs_clean there new =
      ap (λ section. least (tests_of (line_kind section line) s line)) there
      ∙ none_from (rhs_tests s line) (refl, (long, (unknown, (wrong, (wide, (or_from (is_numbered s.sides name) false new refl, tt))))))

  pub rhs_after : s.section ≡ Some Rhs → after s line ≡ record s { sides = s.sides ++ record { row = name; number = x } ∷ [] }
  unfolding after
  rhs_after there =
      ap (λ section. after_kind (line_kind section line) s line) there
      ∙ ap (λ r. record s { sides = s.sides ++ record { row = name; number = number_or_zero r } ∷ [] }) (number_read x fits)

  -- in RANGES: the row has sides
  pub range_clean : s.section ≡ Some Ranges → is_ranged s.ranges name ≡ false → is_row_name s.rows name ≡ true → code_in s line ≡ None
  unfolding code_in
  range_clean there new sided =
      ap (λ section. least (tests_of (line_kind section line) s line)) there
      ∙ none_from (range_tests s line) (refl, (long, (unknown, (wrong, (wide, (or_from (is_ranged s.ranges name) false new refl, (or_from (is_free_row s name) false free refl, tt)))))))
    where
      free : is_free_row s name ≡ false
      free = ap (λ b. b && not (is_row_name s.rows name)) known ∙ ap not sided

  pub range_after : s.section ≡ Some Ranges → after s line ≡ record s { ranges = s.ranges ++ record { row = name; number = x; line = number } ∷ [] }
  unfolding after
  range_after there =
      ap (λ section. after_kind (line_kind section line) s line) there
      ∙ ap (λ r. record s { ranges = s.ranges ++ record { row = name; number = number_or_zero r; line = number } ∷ [] }) (number_read x fits)

  pub entry_no_end : is_end line ≡ false
  unfolding is_end
  entry_no_end = refl
