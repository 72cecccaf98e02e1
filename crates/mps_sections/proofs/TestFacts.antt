-- What the tests of a line say where no code is found.
use Rattle.std.proofs.Common.{◌≡◌, ◌+◌, ◌≤◌, true, false, List, [], ◌∷◌, ◌++◌, map, length, refl, sym, ◌∙◌, ap}
use Rattle.std.specs.Prelude.{ℕ, Option, None, Some, Result, is_some, Bool, nat_lt, not, ◌&&◌, ◌||◌}
use Rattle.std.specs.List.{list_any}
use Rattle.std.proofs.lemmas.Bool.{ltb-false}
use Rattle.mps_text.specs.Text.{Entry}
use Rattle.mps_fields.specs.Words.{line_kind, word, section_of, section_rank, bars, is_rows, is_columns, is_name_section, is_sense_section, takes_number}
use Rattle.mps_sections.specs.Statements.{StatedModel, read_pair, coefficients_in, is_column}
use Rattle.mps_fields.specs.Fields.{column_pairs, has_count, has_unknown_sense, bound_column, bound_field, is_long_name}
use Rattle.mps_fields.specs.Numbers.{limit_of, limit_or_plus, is_not_number, is_too_wide, is_misplaced}
use Rattle.mps_sections.specs.Faults.{Test, least, tests_of, section_tests, most_fields, column_tests, bound_tests, code_in}
use Rattle.mps_fields.specs.declared.words.Section.{Section}
use Rattle.mps_fields.specs.declared.words.BoundKind.{BoundKind}
use Rattle.mps_fields.specs.declared.numbers.Limit.{Limit}
use Rattle.frac_text.specs.declared.parsing.NumFault.{NumFault}
use Rattle.mps_fields.specs.declared.words.LineKind.{LineKind}
use Rattle.mps_fields.specs.declared.words.LineKind.TheVariants.{Header}

abbrev pub NoneHolds : List Test → Type 0
NoneHolds [] = Unit {0}
NoneHolds (test ∷ more) = (test.1 ≡ false) × NoneHolds more

pub none_holds : (found : List Test) → least found ≡ None → NoneHolds found
none_holds [] h = tt
none_holds ((code, true) ∷ more) h = absurd (cc)
none_holds ((code, false) ∷ more) h = (refl, none_holds more h)

pub room_of_column : (s : StatedModel) (e : Entry) → least (column_tests s e) ≡ None → s.count + length (coefficients_in s.rows (map read_pair (column_pairs e))) ≤ 50000
room_of_column s e h = ltb-false 50000 (s.count + length (coefficients_in s.rows (map read_pair (column_pairs e)))) (none_holds (column_tests s e) h).1.1.1.1.1.1.1.1.0

pub code_of_kind : (s : StatedModel) (e : Entry) (kind : LineKind) → kind ≡ line_kind s.section e → code_in s e ≡ None → least (tests_of kind s e) ≡ None
unfolding code_in
code_of_kind s e kind k h = ap (λ (l : LineKind). least (tests_of l s e)) k ∙ h

-- a code of the first tests is that of all
pub least_before : (found more : List Test) → is_some (least found) ≡ true → least found ≡ least (found ++ more)
least_before [] more h = absurd (cc)
least_before ((code, true) ∷ found) more h = refl
least_before ((code, false) ∷ found) more h = least_before found more h

-- where the first tests have no code it is that of the others
pub least_behind : (found more : List Test) → is_some (least found) ≡ false → least more ≡ least (found ++ more)
least_behind [] more h = refl
least_behind ((code, true) ∷ found) more h = absurd (cc)
least_behind ((code, false) ∷ found) more h = least_behind found more h

-- the code of the header of a section, by the headers before it
pub code_of_header : (s : StatedModel) (e : Entry) (section : Section) (headers : List Section) (late lacking long senseless : Bool) →
    section_of (word 0 e) ≡ Some section →
    headers ≡ s.headers →
    late ≡ list_any (λ stands. bars stands section) headers →
    lacking ≡ ((nat_lt 3 (section_rank section) && not (list_any is_rows headers)) || (nat_lt 4 (section_rank section) && not (list_any is_columns headers))) →
    long ≡ (not (is_name_section section) && not (has_count e 1 (most_fields section))) →
    senseless ≡ (is_sense_section section && has_unknown_sense e) →
    least ((4, late || lacking) ∷ (6, long) ∷ (8, senseless) ∷ []) ≡ least (tests_of Header s e)
code_of_header s e section headers late lacking long senseless found same is_late is_lacking is_long is_senseless =
    (λ i. least ((4, is_late i || is_lacking i) ∷ (6, is_long i) ∷ (8, is_senseless i) ∷ []))
    ∙ (λ i. least ((4, list_any (λ stands. bars stands section) (same i) || ((nat_lt 3 (section_rank section) && not (list_any is_rows (same i))) || (nat_lt 4 (section_rank section) && not (list_any is_columns (same i))))) ∷ (6, not (is_name_section section) && not (has_count e 1 (most_fields section))) ∷ (8, is_sense_section section && has_unknown_sense e) ∷ []))
    ∙ sym (ap (λ (known : Option Section). least (section_tests known s e)) found)

-- the code of a bound line of a known type, by its column and its limit
pub code_of_bound : (s : StatedModel) (e : Entry) (kind : BoundKind) (column : List ℕ) (limit : Result Limit NumFault) (numbered few long unread wide stands misplaced : Bool) →
    column ≡ bound_column kind e →
    limit ≡ limit_of (bound_field e) →
    numbered ≡ takes_number kind →
    few ≡ has_count e 3 4 →
    long ≡ is_long_name column →
    unread ≡ is_not_number limit →
    wide ≡ is_too_wide limit →
    stands ≡ is_column s.columns column →
    misplaced ≡ is_misplaced kind (limit_or_plus limit) →
    least ((6, numbered && not few) ∷ (7, long) ∷ (12, numbered && unread) ∷ (13, numbered && wide) ∷ (19, not stands) ∷ (21, misplaced) ∷ []) ≡ least (bound_tests (Some kind) s e)
code_of_bound s e kind column limit numbered few long unread wide stands misplaced same read is_numbered is_few is_long is_unread is_wide is_standing is_out =
    (λ i. least ((6, is_numbered i && not (is_few i)) ∷ (7, is_long i) ∷ (12, is_numbered i && is_unread i) ∷ (13, is_numbered i && is_wide i) ∷ (19, not (is_standing i)) ∷ (21, is_out i) ∷ []))
    ∙ (λ i. least ((6, takes_number kind && not (has_count e 3 4)) ∷ (7, is_long_name (same i)) ∷ (12, takes_number kind && is_not_number (read i)) ∷ (13, takes_number kind && is_too_wide (read i)) ∷ (19, not (is_column s.columns (same i))) ∷ (21, is_misplaced kind (limit_or_plus (read i))) ∷ []))
