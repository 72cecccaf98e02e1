-- A canonical text is a whole text, and what it states.
use Rattle.std.proofs.Common.{◌≡◌, suc, ◌+◌, List, [], ◌∷◌, ◌++◌, map, length, refl, ◌∙◌, ap}
use Rattle.std.specs.Prelude.{flat_map, Ok}
use Rattle.lp_model.specs.Program.{Program}
use Rattle.lp_model.specs.Lawful.{IsLawful}
use Rattle.mps_text.specs.Text.{Entry, records_of}
use Rattle.mps_sections.specs.Statements.{sections_in, stated_sections}
use Rattle.mps_sections.specs.Faults.{IsWholeText}
use Rattle.mps_sections.specs.declared.statements.Sections.{Sections}
use Rattle.mps_writer.specs.Canonical.{canonical_lines, canonical_text}
use Rattle.lp_model.specs.Fitting.{ModelFits}
use Rattle.mps_writer.specs.Writable.{IsWritableMps}
use Rattle.mps_writer.proofs.RecordLaws.{entry_of, entries_from, records_written}
use Rattle.mps_writer.proofs.PassLaws.{as_item, whole_passed, whole_states}
use Rattle.mps_writer.proofs.RowsBack.{stated_row}
use Rattle.mps_writer.proofs.PairsBack.{as_number}
use Rattle.mps_writer.proofs.OwnLines.{entries_append}
use Rattle.mps_writer.proofs.ColumnsPass.{stated_columns}
use Rattle.mps_writer.proofs.SetLines.{rhs_pairs}
use Rattle.mps_writer.proofs.SetsPass.{ranges_at, stated_bounds}
use Rattle.mps_writer.proofs.HeadersBack.{ending_header}
use Rattle.mps_writer.proofs.WholePass.{columns_from, ranges_from, all_ranges, bounds_stated, body_lines, body_passes, ending_line, ending_passes, canonical_are}
use Rattle.mps_writer.proofs.Premises.{may_pass, lines_shown}

-- the lists that the text states
abbrev pub sections_of : Program → Sections
sections_of M = record {
  sense = M.sense;
  objectives = M.obj ∷ M.obj2 ∷ [];
  rows = map stated_row M.rows;
  columns = stated_columns M (suc (columns_from M)) M.cols;
  sides = map as_number (rhs_pairs M);
  ranges = ranges_at (suc (ranges_from M)) (all_ranges M);
  bounds = flat_map stated_bounds M.cols;
}

-- its entries: those of all sections, and the last one
abbrev pub body_entries : Program → List Entry
body_entries M = entries_from 1 (body_lines M)

abbrev pub ending_entry : Program → Entry
ending_entry M = entry_of (1 + length (body_lines M)) ending_line

abbrev pub all_entries : Program → List Entry
all_entries M = body_entries M ++ ending_entry M ∷ []

entries_are : (M : Program) → entries_from 1 (canonical_lines M) ≡ all_entries M
entries_are M = ap (entries_from 1) (canonical_are M) ∙ entries_append 1 (body_lines M) (ending_line ∷ [])

module _ (M : Program) (h : IsLawful M) (w : IsWritableMps M) (f : ModelFits M) where
  records_are : records_of (canonical_text M) ≡ map Ok (all_entries M)
  unfolding canonical_text
  records_are = records_written (canonical_lines M) (lines_shown M h w f) ∙ ap (λ (es : List Entry). map as_item es) (entries_are M)

  pub whole_text : IsWholeText [] (records_of (canonical_text M)) (all_entries M)
  whole_text =
      let m = may_pass M h w f in
      let ends = ending_passes M (1 + length (body_lines M)) in
      whole_passed (records_of (canonical_text M)) (body_entries M) (ending_entry M) (bounds_stated M) records_are (body_passes M m) ends.0 ends.1

  pub states : stated_sections (all_entries M) ≡ sections_of M
  states =
      let m = may_pass M h w f in
      let last = ending_header (bounds_stated M) (1 + length (body_lines M)) refl in
      ap sections_in (whole_states (body_entries M) (ending_entry M) (bounds_stated M) (body_passes M m) last.clean ∙ last.after_is)
