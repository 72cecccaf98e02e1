-- A header of one word passes, where its section may come: it is the section that follows, and stands behind the headers before it.
use Rattle.std.proofs.Common.{◌≡◌, ℕ, Bool, false, not, ◌||◌, ◌&&◌, List, [], ◌∷◌, ◌++◌, refl, ◌∙◌, ap}
use Rattle.std.specs.Prelude.{nat_lt, option_to_list, codes, Option, None, Some}
use Rattle.std.specs.List.{list_any}
use Rattle.mps_text.specs.Text.{Entry}
use Rattle.mps_fields.specs.Words.{is_key, section_of, section_rank, bars, is_rows, is_columns, is_name_section, is_sense_section, is_ended}
use Rattle.mps_sections.specs.Statements.{StatedModel}
use Rattle.mps_fields.specs.Fields.{header_sense, has_count, has_unknown_sense, is_end}
use Rattle.mps_sections.specs.Faults.{least, section_tests, most_fields, code_in}
use Rattle.mps_sections.specs.Shown.{after}
use Rattle.mps_fields.specs.declared.words.Section.{Section}
use Rattle.mps_fields.specs.declared.words.Section.TheVariants.{Name, Objsense, Rows, Columns, Rhs, Ranges, Bounds, Ended}
use Rattle.mps_sections.proofs.StatedSteps.{nothing_more}
use Rattle.mps_writer.specs.Canonical.{Header}
use Rattle.mps_writer.proofs.RecordLaws.{entry_of}
use Rattle.mps_writer.proofs.RowsBack.{none_from}

-- it stands too late, or lacks a section, behind some headers
abbrev pub is_misplaced_behind : List Section → Section → Bool
is_misplaced_behind headers section =
    list_any (λ stands. bars stands section) headers || ((nat_lt 3 (section_rank section) && not (list_any is_rows headers)) || (nat_lt 4 (section_rank section) && not (list_any is_columns headers)))

abbrev pub behind_header : Section → StatedModel → StatedModel
behind_header section s = record s { section = Some section; headers = s.headers ++ section ∷ [] }

module _ (s : StatedModel) (number : ℕ) (w : List ℕ) (section : Section) (is : section_of w ≡ Some section) where
  abbrev pub line : Entry
  line = entry_of number (Header (w ∷ []))

  header_clean : (headers : List Section) → s.headers ≡ headers → is_misplaced_behind headers section ≡ false → (not (is_name_section section) && not (has_count line 1 (most_fields section))) ≡ false → (is_sense_section section && has_unknown_sense line) ≡ false → code_in s line ≡ None
  unfolding code_in
  header_clean headers stand may count sense =
      ap (λ (o : Option Section). least (section_tests o s line)) is
      ∙ none_from (section_tests (Some section) s line) (ap (λ (hs : List Section). is_misplaced_behind hs section) stand ∙ may, (count, (sense, tt)))

  header_after : header_sense (Some section) line ≡ None → after s line ≡ behind_header section s
  unfolding after
  header_after none =
      ap (λ (o : Option Section). record s { section = o; headers = s.headers ++ option_to_list o; senses = s.senses ++ option_to_list (header_sense o line) }) is
      ∙ ap (λ o. record s { section = Some section; headers = s.headers ++ section ∷ []; senses = s.senses ++ option_to_list o }) none
      ∙ ap (λ found. record s { section = Some section; headers = s.headers ++ section ∷ []; senses = found }) (nothing_more s.senses)

  header_ends : is_end line ≡ is_ended (Some section)
  unfolding is_end
  header_ends = ap is_ended is

-- ---- the headers of a canonical text, each behind those before it

pub record HeaderPasses (s : StatedModel) (number : ℕ) (w : List ℕ) (section : Section) : Type 0 where
  pub clean : code_in s (entry_of number (Header (w ∷ []))) ≡ None
  pub after_is : after s (entry_of number (Header (w ∷ []))) ≡ behind_header section s
  pub ends : is_end (entry_of number (Header (w ∷ []))) ≡ is_ended (Some section)

pub rows_header : (s : StatedModel) (number : ℕ) → s.headers ≡ Name ∷ Objsense ∷ [] → HeaderPasses s number (codes "ROWS") Rows
unfolding is_key
rows_header s number h = record { clean = header_clean s number (codes "ROWS") Rows refl (Name ∷ Objsense ∷ []) h refl refl refl; after_is = header_after s number (codes "ROWS") Rows refl refl; ends = header_ends s number (codes "ROWS") Rows refl }

pub columns_header : (s : StatedModel) (number : ℕ) → s.headers ≡ Name ∷ Objsense ∷ Rows ∷ [] → HeaderPasses s number (codes "COLUMNS") Columns
unfolding is_key
columns_header s number h = record { clean = header_clean s number (codes "COLUMNS") Columns refl (Name ∷ Objsense ∷ Rows ∷ []) h refl refl refl; after_is = header_after s number (codes "COLUMNS") Columns refl refl; ends = header_ends s number (codes "COLUMNS") Columns refl }

pub rhs_header : (s : StatedModel) (number : ℕ) → s.headers ≡ Name ∷ Objsense ∷ Rows ∷ Columns ∷ [] → HeaderPasses s number (codes "RHS") Rhs
unfolding is_key
rhs_header s number h = record { clean = header_clean s number (codes "RHS") Rhs refl (Name ∷ Objsense ∷ Rows ∷ Columns ∷ []) h refl refl refl; after_is = header_after s number (codes "RHS") Rhs refl refl; ends = header_ends s number (codes "RHS") Rhs refl }

pub ranges_header : (s : StatedModel) (number : ℕ) → s.headers ≡ Name ∷ Objsense ∷ Rows ∷ Columns ∷ Rhs ∷ [] → HeaderPasses s number (codes "RANGES") Ranges
unfolding is_key
ranges_header s number h = record { clean = header_clean s number (codes "RANGES") Ranges refl (Name ∷ Objsense ∷ Rows ∷ Columns ∷ Rhs ∷ []) h refl refl refl; after_is = header_after s number (codes "RANGES") Ranges refl refl; ends = header_ends s number (codes "RANGES") Ranges refl }

pub bounds_header : (s : StatedModel) (number : ℕ) → s.headers ≡ Name ∷ Objsense ∷ Rows ∷ Columns ∷ Rhs ∷ Ranges ∷ [] → HeaderPasses s number (codes "BOUNDS") Bounds
unfolding is_key
bounds_header s number h = record { clean = header_clean s number (codes "BOUNDS") Bounds refl (Name ∷ Objsense ∷ Rows ∷ Columns ∷ Rhs ∷ Ranges ∷ []) h refl refl refl; after_is = header_after s number (codes "BOUNDS") Bounds refl refl; ends = header_ends s number (codes "BOUNDS") Bounds refl }

pub ending_header : (s : StatedModel) (number : ℕ) → s.headers ≡ Name ∷ Objsense ∷ Rows ∷ Columns ∷ Rhs ∷ Ranges ∷ Bounds ∷ [] → HeaderPasses s number (codes "ENDATA") Ended
unfolding is_key
ending_header s number h = record { clean = header_clean s number (codes "ENDATA") Ended refl (Name ∷ Objsense ∷ Rows ∷ Columns ∷ Rhs ∷ Ranges ∷ Bounds ∷ []) h refl refl refl; after_is = header_after s number (codes "ENDATA") Ended refl refl; ends = header_ends s number (codes "ENDATA") Ended refl }
