-- The lines of a whole canonical text pass, section by section, as far as ENDATA; and that line ends it.
use Rattle.std.proofs.Common.{◌≡◌, ℕ, suc, ◌+◌, ◌≤◌, false, true, List, [], ◌∷◌, ◌++◌, map, length, refl, sym, ◌∙◌, ap, subst, arith, append_assoc}
use Rattle.std.specs.Prelude.{flat_map, codes, bytes_eq, None, Some, All}
use Rattle.std.proofs.lemmas.Bool.{or_from}
use Rattle.lp_model.specs.Limits.{row_limit}
use Rattle.lp_model.specs.Program.{Program}
use Rattle.lp_model.specs.Lawful.{IsRange}
use Rattle.lp_model.specs.declared.types.Sense.{Sense}
use Rattle.lp_model.specs.declared.types.Row.{Row}
use Rattle.mps_text.specs.Text.{Entry}
use Rattle.mps_fields.specs.Words.{is_key, is_ended}
use Rattle.mps_sections.specs.Statements.{StatedModel, stated, is_numbered, is_ranged, is_row_name}
use Rattle.mps_sections.specs.Faults.{code_in}
use Rattle.mps_fields.specs.Fields.{is_end}
use Rattle.mps_fields.specs.declared.words.Section.{Section}
use Rattle.mps_fields.specs.declared.words.Section.TheVariants.{Rows, Columns, Rhs, Ranges, Bounds}
use Rattle.mps_fields.specs.declared.words.RowKind.TheVariants.{Free}
use Rattle.mps_writer.specs.Canonical.{WrittenLine, Header, opening_lines, row_line, objective_line, rows_lines, columns_lines, column_lines, rhs_lines, ranges_lines, bounds_lines, bound_lines, canonical_lines}
use Rattle.mps_writer.proofs.RecordLaws.{entry_of, entries_from}
use Rattle.mps_writer.proofs.PassLaws.{Passes, passes_append}
use Rattle.mps_writer.proofs.RowsBack.{opened, opening_passes, row_clean, row_after, row_no_end, with_row, with_sided, stated_row, AreNew, rows_pass}
use Rattle.mps_writer.proofs.PairsBack.{Named, as_number, as_line}
use Rattle.mps_writer.proofs.OwnLines.{entries_append}
use Rattle.mps_writer.proofs.ColumnsPass.{stated_columns, total, with_columns, AreWritten, columns_pass}
use Rattle.mps_writer.proofs.SetLines.{rhs_pairs, rhs_are, range_pairs, ranges_are}
use Rattle.mps_writer.proofs.SetsPass.{IsSetPair, AreApart, with_sides, rhs_pass, ranges_at, with_ranges, ranges_pass, stated_bounds, with_bounds, HasBounds, bounds_pass}
use Rattle.mps_writer.proofs.HeadersBack.{behind_header, HeaderPasses, rows_header, columns_header, rhs_header, ranges_header, bounds_header, ending_header}

-- a header, and lines that lead on from it
section_passes : (s t : StatedModel) (number : ℕ) (w : List ℕ) (section : Section) (lines : List WrittenLine) → HeaderPasses s number w section → is_ended (Some section) ≡ false → Passes (behind_header section s) (entries_from (suc number) lines) t
    → Passes s (entries_from number (Header (w ∷ []) ∷ lines)) t
section_passes s t number w section lines h goes led = (h.clean, h.ends ∙ goes, subst (λ (r : StatedModel). Passes r (entries_from (suc number) lines) t) (sym h.after_is) led)

-- lines, and lines behind them
joined : (s t u : StatedModel) (number : ℕ) (xs ys : List WrittenLine) → Passes s (entries_from number xs) t → Passes t (entries_from (number + length xs) ys) u → Passes s (entries_from number (xs ++ ys)) u
joined s t u number xs ys p q = subst (λ (es : List Entry). Passes s es u) (sym (entries_append number xs ys)) (passes_append s t u (entries_from number xs) (entries_from (number + length xs) ys) p q)

-- ---- the objectives

abbrev pub at_rows : Sense → StatedModel
at_rows sense = behind_header Rows (opened sense)

abbrev pub named : Sense → List ℕ → List ℕ → StatedModel
named sense obj obj2 = record (at_rows sense) { objectives = obj ∷ obj2 ∷ [] }

objectives_pass : (sense : Sense) (obj obj2 : List ℕ) (number : ℕ) → length obj ≤ 255 → length obj2 ≤ 255 → bytes_eq obj obj2 ≡ false → Passes (at_rows sense) (entries_from number (objective_line obj ∷ objective_line obj2 ∷ [])) (named sense obj obj2)
unfolding is_key
objectives_pass sense obj obj2 number short short2 differs =
    let s = at_rows sense in
    let t = with_row Free obj s in (
      row_clean s number (codes "N") obj Free refl refl short refl refl,
      row_no_end s number (codes "N") obj Free refl refl,
      subst (λ (r : StatedModel). Passes r (entry_of (suc number) (objective_line obj2) ∷ []) (named sense obj obj2)) (sym (row_after s number (codes "N") obj Free refl refl))
          (row_clean t (suc number) (codes "N") obj2 Free refl refl short2 (or_from (bytes_eq obj obj2) false differs refl) refl, row_no_end t (suc number) (codes "N") obj2 Free refl refl, row_after t (suc number) (codes "N") obj2 Free refl refl),
    )

-- ---- the states between the sections, and the numbers of their headers

abbrev pub objectives_stated : Program → StatedModel
objectives_stated M = named M.sense M.obj M.obj2

abbrev pub rows_stated : Program → StatedModel
rows_stated M = with_sided (map stated_row M.rows) (objectives_stated M)

abbrev pub at_columns : Program → StatedModel
at_columns M = behind_header Columns (rows_stated M)

abbrev pub columns_from : Program → ℕ
columns_from M = 3 + length (rows_lines M)

abbrev pub columns_stated : Program → StatedModel
columns_stated M = with_columns (at_columns M) (stated_columns M (suc (columns_from M)) M.cols) ((at_columns M).count + total M (at_columns M) M.cols)

abbrev pub at_rhs : Program → StatedModel
at_rhs M = behind_header Rhs (columns_stated M)

abbrev pub rhs_from : Program → ℕ
rhs_from M = columns_from M + length (columns_lines M)

abbrev pub rhs_stated : Program → StatedModel
rhs_stated M = with_sides (map as_number (rhs_pairs M)) (at_rhs M)

abbrev pub at_ranges : Program → StatedModel
at_ranges M = behind_header Ranges (rhs_stated M)

abbrev pub ranges_from : Program → ℕ
ranges_from M = rhs_from M + length (rhs_lines M)

abbrev pub all_ranges : Program → List Named
all_ranges M = flat_map range_pairs M.rows

abbrev pub ranges_stated : Program → StatedModel
ranges_stated M = with_ranges (ranges_at (suc (ranges_from M)) (all_ranges M)) (at_ranges M)

abbrev pub at_bounds : Program → StatedModel
at_bounds M = behind_header Bounds (ranges_stated M)

abbrev pub bounds_from : Program → ℕ
bounds_from M = ranges_from M + length (ranges_lines M)

abbrev pub bounds_stated : Program → StatedModel
bounds_stated M = with_bounds (flat_map stated_bounds M.cols) (at_bounds M)

abbrev pub ends_at : Program → ℕ
ends_at M = bounds_from M + length (bounds_lines M)

-- what the sections need
pub record MayPass (M : Program) : Type 0 where
  pub objective_short : length M.obj ≤ 255
  pub objective2_short : length M.obj2 ≤ 255
  pub objectives_differ : bytes_eq M.obj M.obj2 ≡ false
  pub rows_ranged : All (λ (r : Row). IsRange r.lo r.hi) M.rows
  pub rows_short : All (λ (r : Row). length r.name ≤ 255) M.rows
  pub rows_new : AreNew (objectives_stated M) M.rows
  pub rows_few : length M.rows ≤ row_limit false
  pub columns : AreWritten M (at_columns M) M.cols
  pub sides : All (IsSetPair (at_rhs M)) (rhs_pairs M)
  pub sides_apart : AreApart (rhs_pairs M)
  pub ranges : All (IsSetPair (at_ranges M)) (all_ranges M)
  pub ranges_sided : All (λ (p : Named). is_row_name (at_ranges M).rows p.0 ≡ true) (all_ranges M)
  pub ranges_apart : AreApart (all_ranges M)
  pub bounds : All (HasBounds (at_bounds M)) M.cols

-- ---- each section

-- behind no number, none stands before
none_numbered : (pairs : List Named) → All (λ (p : Named). is_numbered [] p.0 ≡ false) pairs
none_numbered pairs = λ i d below. refl

none_ranged : (pairs : List Named) → All (λ (p : Named). is_ranged [] p.0 ≡ false) pairs
none_ranged pairs = λ i d below. refl

module _ (M : Program) (m : MayPass M) where
  rows_section : Passes (opened M.sense) (entries_from 3 (rows_lines M)) (rows_stated M)
  rows_section =
      let few = m.rows_few in
      section_passes (opened M.sense) (rows_stated M) 3 (codes "ROWS") Rows (objective_line M.obj ∷ objective_line M.obj2 ∷ map row_line M.rows) (rows_header (opened M.sense) 3 refl) refl
      (joined (at_rows M.sense) (objectives_stated M) (rows_stated M) 4 (objective_line M.obj ∷ objective_line M.obj2 ∷ []) (map row_line M.rows) (objectives_pass M.sense M.obj M.obj2 4 m.objective_short m.objective2_short m.objectives_differ)
      (rows_pass (objectives_stated M) 6 M.rows refl m.rows_ranged m.rows_short m.rows_new (omega (arith, few))))

  columns_section : Passes (rows_stated M) (entries_from (columns_from M) (columns_lines M)) (columns_stated M)
  columns_section =
      let n = columns_from M in
      section_passes (rows_stated M) (columns_stated M) n (codes "COLUMNS") Columns (flat_map (column_lines M) M.cols) (columns_header (rows_stated M) n refl) refl (columns_pass M (at_columns M) (suc n) M.cols m.columns)

  rhs_section : Passes (columns_stated M) (entries_from (rhs_from M) (rhs_lines M)) (rhs_stated M)
  rhs_section =
      let n = rhs_from M in
      let pairs = rhs_pairs M in
      subst (λ (lines : List WrittenLine). Passes (columns_stated M) (entries_from n (Header (codes "RHS" ∷ []) ∷ lines)) (rhs_stated M)) (sym (rhs_are M))
      (section_passes (columns_stated M) (rhs_stated M) n (codes "RHS") Rhs (map (as_line (codes "RHS")) pairs) (rhs_header (columns_stated M) n refl) refl (rhs_pass (at_rhs M) (suc n) (codes "RHS") pairs refl m.sides (none_numbered pairs) m.sides_apart))

  ranges_section : Passes (rhs_stated M) (entries_from (ranges_from M) (ranges_lines M)) (ranges_stated M)
  ranges_section =
      let n = ranges_from M in
      let pairs = all_ranges M in
      subst (λ (lines : List WrittenLine). Passes (rhs_stated M) (entries_from n (Header (codes "RANGES" ∷ []) ∷ lines)) (ranges_stated M)) (sym (ranges_are M.rows))
      (section_passes (rhs_stated M) (ranges_stated M) n (codes "RANGES") Ranges (map (as_line (codes "RNG")) pairs) (ranges_header (rhs_stated M) n refl) refl (ranges_pass (at_ranges M) (suc n) (codes "RNG") pairs refl m.ranges m.ranges_sided (none_ranged pairs) m.ranges_apart))

  bounds_section : Passes (ranges_stated M) (entries_from (bounds_from M) (bounds_lines M)) (bounds_stated M)
  bounds_section =
      let n = bounds_from M in
      section_passes (ranges_stated M) (bounds_stated M) n (codes "BOUNDS") Bounds (flat_map bound_lines M.cols) (bounds_header (ranges_stated M) n refl) refl (bounds_pass (at_bounds M) (suc n) M.cols refl m.bounds)

-- ---- the text

abbrev pub body_lines : Program → List WrittenLine
body_lines M = opening_lines M.sense ++ (rows_lines M ++ (columns_lines M ++ (rhs_lines M ++ (ranges_lines M ++ bounds_lines M))))

pub body_passes : (M : Program) → MayPass M → Passes (stated []) (entries_from 1 (body_lines M)) (bounds_stated M)
body_passes M m =
    let end = bounds_stated M in
    let ranges = joined (rhs_stated M) (ranges_stated M) end (ranges_from M) (ranges_lines M) (bounds_lines M) (ranges_section M m) (bounds_section M m) in
    let rhs = joined (columns_stated M) (rhs_stated M) end (rhs_from M) (rhs_lines M) (ranges_lines M ++ bounds_lines M) (rhs_section M m) ranges in
    let columns = joined (rows_stated M) (columns_stated M) end (columns_from M) (columns_lines M) (rhs_lines M ++ (ranges_lines M ++ bounds_lines M)) (columns_section M m) rhs in
    let rows = joined (opened M.sense) (rows_stated M) end 3 (rows_lines M) (columns_lines M ++ (rhs_lines M ++ (ranges_lines M ++ bounds_lines M))) (rows_section M m) columns in
    joined (stated []) (opened M.sense) end 1 (opening_lines M.sense) (rows_lines M ++ (columns_lines M ++ (rhs_lines M ++ (ranges_lines M ++ bounds_lines M)))) (opening_passes M.sense) rows

abbrev pub ending_line : WrittenLine
ending_line = Header (codes "ENDATA" ∷ [])

pub ending_passes : (M : Program) (number : ℕ) → (code_in (bounds_stated M) (entry_of number ending_line) ≡ None) × (is_end (entry_of number ending_line) ≡ true)
ending_passes M number = let h = ending_header (bounds_stated M) number refl in (h.clean, h.ends)

-- the canonical lines are those, and ENDATA
pub canonical_are : (M : Program) → canonical_lines M ≡ body_lines M ++ ending_line ∷ []
canonical_are M =
    let end = ending_line ∷ [] in
    let ranges = append_assoc (ranges_lines M) (bounds_lines M) end in
    let rhs = append_assoc (rhs_lines M) (ranges_lines M ++ bounds_lines M) end ∙ ap (λ l. rhs_lines M ++ l) ranges in
    let columns = append_assoc (columns_lines M) (rhs_lines M ++ (ranges_lines M ++ bounds_lines M)) end ∙ ap (λ l. columns_lines M ++ l) rhs in
    let rows = append_assoc (rows_lines M) (columns_lines M ++ (rhs_lines M ++ (ranges_lines M ++ bounds_lines M))) end ∙ ap (λ l. rows_lines M ++ l) columns in
    sym (append_assoc (opening_lines M.sense) (rows_lines M ++ (columns_lines M ++ (rhs_lines M ++ (ranges_lines M ++ bounds_lines M)))) end ∙ ap (λ l. opening_lines M.sense ++ l) rows)
