-- What lines without fault keep: few rows, columns and numbers, names of rows and of columns that differ, no objective with
-- a row's name, and numbers that are counted. A model that is built from them passes no limit and takes no name twice.
use Rattle.std.proofs.Common.{◌≡◌, ◌≢◌, ℕ, suc, ◌<◌, ◌≤◌, Bool, true, false, not, ◌&&◌, ◌||◌, List, [], ◌∷◌, ◌++◌, map, length, refl, sym, ◌∙◌, ap, subst, arith, append_assoc, inl, inr, ◌⊎◌, length-append, Contains}
use Rattle.std.specs.Prelude.{Option, None, Some, if◌then◌else◌, nat_le, bytes_eq}
use Rattle.std.proofs.lemmas.Bool.{leb-false, or_parts, or_cases, or_from, true≢false, false_from_ne_true}
use Rattle.std.proofs.lemmas.List.{get_or_default}
use Rattle.std.proofs.lemmas.List.Folds.{list_any-append}
use Rattle.std.proofs.lemmas.List.Quantifiers.{all_pairs_push}
use Rattle.std.proofs.lemmas.Slice.Eq.{bytes_eq-Decides}
use Rattle.mps_text.specs.Text.{Entry, Item}
use Rattle.lp_model.specs.Limits.{col_limit, row_limit}
use Rattle.lp_model.proofs.NameLemmas.{contains_cases}
use Rattle.mps_fields.specs.Words.{among, word, row_kind, line_kind}
use Rattle.mps_sections.specs.Statements.{StatedModel, stated, sections_in, stated_sections, gathered_behind, is_row_name, is_column, as_row, as_objective, read_pair, stated_row_names}
use Rattle.mps_fields.specs.Fields.{column_pairs}
use Rattle.mps_sections.specs.Faults.{least, tests_of, row_tests, column_tests, has_sides, is_last, code_at, Clean, IsWholeText}
use Rattle.mps_sections.specs.Shown.{with_more, after_kind, after}
use Rattle.mps_fields.specs.declared.words.LineKind.{LineKind}
use Rattle.mps_fields.specs.declared.words.LineKind.TheVariants.{Header, SenseLine, Row, Marker, Column, RightSide, Range, Bound, Stray}
use Rattle.mps_fields.specs.declared.words.RowKind.{RowKind}
use Rattle.mps_fields.specs.declared.words.RowKind.TheVariants.{Free, AtMost, AtLeast, Equal}
use Rattle.mps_sections.specs.declared.statements.RowLine.{RowLine}
use Rattle.mps_sections.specs.declared.statements.RowNumber.{RowNumber}
use Rattle.mps_sections.specs.declared.statements.ColumnLines.{ColumnLines}
use Rattle.mps_sections.specs.Limits.{AreNamesApart, names_of_columns, IsNoRow, StatesWithinLimits}
use Rattle.mps_sections.proofs.TestFacts.{none_holds, room_of_column, code_of_kind}
use Rattle.mps_sections.proofs.StatedSteps.{nothing_more, stated_more}
use Rattle.mps_sections.proofs.CountedNumbers.{AreCounted, unknown_read, counted_row, counted_column}

-- ---- names

pub not_among : (names : List (List ℕ)) (name : List ℕ) → among names name ≡ false → ¬ Contains names name
not_among [] name e (k, below, is) = omega (arith, below)
not_among (first ∷ names) name e h =
    let parts = or_parts (bytes_eq first name) (among names name) e in
    elim (contains_cases first name names h) [
      | inl same ↦ absurd (true≢false (sym ((bytes_eq-Decides first name).1 same) ∙ parts.0))
      | inr later ↦ not_among names name parts.1 later
    ]

apart_push : (names : List (List ℕ)) (name : List ℕ) → AreNamesApart names → among names name ≡ false → AreNamesApart (names ++ name ∷ [])
apart_push names name all free = all_pairs_push (λ a b. a ≢ b) names name all (λ k d below e. not_among names name free (k, below, get_or_default names k name d below ∙ e))

pub row_among : (sided : List RowLine) (name : List ℕ) → among (stated_row_names sided) name ≡ is_row_name sided name
row_among [] name = refl
row_among (r ∷ sided) name = ap (λ b. bytes_eq r.name name || b) (row_among sided name)

pub column_among : (found : List ColumnLines) (name : List ℕ) → among (names_of_columns found) name ≡ is_column found name
column_among [] name = refl
column_among (c ∷ found) name = ap (λ b. bytes_eq c.name name || b) (column_among found name)

row_names-more : (sided : List RowLine) (r : RowLine) → stated_row_names (sided ++ r ∷ []) ≡ stated_row_names sided ++ r.name ∷ []
row_names-more [] r = refl
row_names-more (q ∷ sided) r = ap (λ names. q.name ∷ names) (row_names-more sided r)

column_names-more : (found : List ColumnLines) (c : ColumnLines) → names_of_columns (found ++ c ∷ []) ≡ names_of_columns found ++ c.name ∷ []
column_names-more [] c = refl
column_names-more (d ∷ found) c = ap (λ names. d.name ∷ names) (column_names-more found c)

-- ---- what lines without fault keep

record KeepsTests (s : StatedModel) : Type 0 where
  few_rows : length s.rows ≤ row_limit false
  few_columns : length s.columns ≤ col_limit false
  few_numbers : s.count ≤ 50000
  rows_apart : AreNamesApart (stated_row_names s.rows)
  columns_apart : AreNamesApart (names_of_columns s.columns)
  objectives_differ : AreNamesApart s.objectives
  objectives_apart : IsNoRow s.objectives s.rows
  numbers : AreCounted s.rows s.objectives s.columns s.count

-- ---- a line of ROWS

record KeepsRows (objectives : List (List ℕ)) (sided : List RowLine) : Type 0 where
  few : length sided ≤ row_limit false
  apart : AreNamesApart (stated_row_names sided)
  objectives_differ : AreNamesApart objectives
  objectives_apart : IsNoRow objectives sided

with_row : (objectives : List (List ℕ)) (sided : List RowLine) (r : RowLine) → among objectives r.name ≡ false → is_row_name sided r.name ≡ false → length sided < row_limit false → KeepsRows objectives sided → KeepsRows (objectives ++ []) (sided ++ r ∷ [])
with_row objectives sided r free new room keeps = record {
  few = omega (arith, length-append sided (r ∷ []));
  apart = subst AreNamesApart (sym (row_names-more sided r)) (apart_push (stated_row_names sided) r.name keeps.apart (row_among sided r.name ∙ new));
  objectives_differ = subst AreNamesApart (sym (nothing_more objectives)) keeps.objectives_differ;
  objectives_apart = λ name h.
      let own : among objectives name ≡ true = ap (λ (names : List (List ℕ)). among names name) (sym (nothing_more objectives)) ∙ h in
      let other : bytes_eq r.name name ≡ false = false_from_ne_true (bytes_eq r.name name) (λ e. true≢false (sym own ∙ ap (among objectives) (sym ((bytes_eq-Decides r.name name).0 e)) ∙ free)) in
      list_any-append (λ (q : RowLine). bytes_eq q.name name) sided (r ∷ []) ∙ or_from (is_row_name sided name) (bytes_eq r.name name || false) (keeps.objectives_apart name own) (or_from (bytes_eq r.name name) false other refl);
}

with_objective : (objectives : List (List ℕ)) (sided : List RowLine) (new : List ℕ) → is_row_name sided new ≡ false → among objectives new ≡ false → KeepsRows objectives sided → KeepsRows (objectives ++ new ∷ []) (sided ++ [])
with_objective objectives sided new free other keeps = subst (KeepsRows (objectives ++ new ∷ [])) (sym (nothing_more sided)) (record {
  few = keeps.few;
  apart = keeps.apart;
  objectives_differ = apart_push objectives new keeps.objectives_differ other;
  objectives_apart = λ name h. by name (or_cases (among objectives name) (bytes_eq new name || false) (sym (list_any-append (λ (other : List ℕ). bytes_eq other name) objectives (new ∷ [])) ∙ h));
})
  where
    same : (name : List ℕ) → (bytes_eq new name || false) ≡ true → is_row_name sided name ≡ false
    same name e = elim (or_cases (bytes_eq new name) false e) [ inl is ↦ ap (is_row_name sided) (sym ((bytes_eq-Decides new name).0 is)) ∙ free | inr never ↦ absurd (true≢false (sym never)) ]

    by : (name : List ℕ) → ((among objectives name ≡ true) ⊎ ((bytes_eq new name || false) ≡ true)) → is_row_name sided name ≡ false
    by name (inl own) = keeps.objectives_apart name own
    by name (inr e) = same name e

no_row : (objectives : List (List ℕ)) (sided : List RowLine) → KeepsRows objectives sided → KeepsRows (objectives ++ []) (sided ++ [])
no_row objectives sided keeps = subst (KeepsRows (objectives ++ [])) (sym (nothing_more sided)) (subst (λ (names : List (List ℕ)). KeepsRows names sided) (sym (nothing_more objectives)) keeps)

row_kept : (kind : Option RowKind) (name : List ℕ) (objectives : List (List ℕ)) (sided : List RowLine)
    → (is_row_name sided name || among objectives name) ≡ false → (has_sides kind && nat_le (row_limit false) (length sided)) ≡ false → KeepsRows objectives sided → KeepsRows (objectives ++ as_objective kind name) (sided ++ as_row kind name)
row_kept None name objectives sided new room keeps = no_row objectives sided keeps
row_kept (Some Free) name objectives sided new room keeps =
    let parts = or_parts (is_row_name sided name) (among objectives name) new in
    with_objective objectives sided name parts.0 parts.1 keeps
row_kept (Some AtMost) name objectives sided new room keeps =
    let parts = or_parts (is_row_name sided name) (among objectives name) new in
    with_row objectives sided (record { name = name; kind = AtMost }) parts.1 parts.0 (leb-false (row_limit false) (length sided) room) keeps
row_kept (Some AtLeast) name objectives sided new room keeps =
    let parts = or_parts (is_row_name sided name) (among objectives name) new in
    with_row objectives sided (record { name = name; kind = AtLeast }) parts.1 parts.0 (leb-false (row_limit false) (length sided) room) keeps
row_kept (Some Equal) name objectives sided new room keeps =
    let parts = or_parts (is_row_name sided name) (among objectives name) new in
    with_row objectives sided (record { name = name; kind = Equal }) parts.1 parts.0 (leb-false (row_limit false) (length sided) room) keeps

row_step : (s : StatedModel) (e : Entry) → KeepsTests s → least (row_tests s e) ≡ None → KeepsTests (after_kind Row s e)
row_step s e keeps h =
    let tests = none_holds (row_tests s e) h in
    let rows = row_kept (row_kind (word 0 e)) (word 1 e) s.objectives s.rows tests.1.1.1.0 tests.1.1.1.1.0 (record { few = keeps.few_rows; apart = keeps.rows_apart; objectives_differ = keeps.objectives_differ; objectives_apart = keeps.objectives_apart }) in
    record { few_rows = rows.few; few_columns = keeps.few_columns; few_numbers = keeps.few_numbers; rows_apart = rows.apart; columns_apart = keeps.columns_apart; objectives_differ = rows.objectives_differ; objectives_apart = rows.objectives_apart; numbers = counted_row s.rows s.objectives (row_kind (word 0 e)) (word 1 e) tests.1.1.1.0 s.columns s.count keeps.numbers }

-- ---- a line of COLUMNS

with_more-names : (found : List ColumnLines) (more : List RowNumber) → names_of_columns (with_more found more) ≡ names_of_columns found
with_more-names [] more = refl
with_more-names (c ∷ []) more = refl
with_more-names (c ∷ next ∷ others) more = ap (λ names. c.name ∷ names) (with_more-names (next ∷ others) more)

with_more-length : (found : List ColumnLines) (more : List RowNumber) → length (with_more found more) ≡ length found
with_more-length [] more = refl
with_more-length (c ∷ []) more = refl
with_more-length (c ∷ next ∷ others) more = ap suc (with_more-length (next ∷ others) more)

record KeepsColumns (found : List ColumnLines) : Type 0 where
  few : length found ≤ col_limit false
  apart : AreNamesApart (names_of_columns found)

column_kept : (found : List ColumnLines) (c : ColumnLines) (more : List RowNumber) (last known : Bool)
    → is_column found c.name ≡ known → (known && not last) ≡ false → (not known && nat_le (col_limit false) (length found)) ≡ false → KeepsColumns found → KeepsColumns (if last then with_more found more else found ++ c ∷ [])
column_kept found c more true known is returns room keeps = record {
  few = subst (λ n. n ≤ col_limit false) (sym (with_more-length found more)) keeps.few;
  apart = subst AreNamesApart (sym (with_more-names found more)) keeps.apart;
}
column_kept found c more false true is returns room keeps = absurd (true≢false returns)
column_kept found c more false false is returns room keeps = let below = leb-false (col_limit false) (length found) room in record {
  few = omega (arith, length-append found (c ∷ []));
  apart = subst AreNamesApart (sym (column_names-more found c)) (apart_push (names_of_columns found) c.name keeps.apart (column_among found c.name ∙ is));
}

column_step : (s : StatedModel) (e : Entry) → KeepsTests s → least (column_tests s e) ≡ None → KeepsTests (after_kind Column s e)
column_step s e keeps h =
    let tests = none_holds (column_tests s e) h in
    let place = tests.1.1.1.1.1 in
    let new : ColumnLines = record { name = word 0 e; line = e.line; marked = s.marked; numbers = map read_pair (column_pairs e) } in
    let columns = column_kept s.columns new (map read_pair (column_pairs e)) (is_last s.columns (word 0 e)) (is_column s.columns (word 0 e)) refl place.0 place.1.1.0 (record { few = keeps.few_columns; apart = keeps.columns_apart }) in
    record { few_rows = keeps.few_rows; few_columns = columns.few; few_numbers = room_of_column s e h; rows_apart = keeps.rows_apart; columns_apart = columns.apart; objectives_differ = keeps.objectives_differ; objectives_apart = keeps.objectives_apart; numbers = counted_column s.rows s.objectives s.columns s.count new (is_last s.columns (word 0 e)) refl (unknown_read s.rows s.objectives (column_pairs e) ∙ tests.1.1.0) keeps.numbers }

-- ---- each line

as_before : (s t : StatedModel) → t.rows ≡ s.rows → t.columns ≡ s.columns → t.count ≡ s.count → t.objectives ≡ s.objectives → KeepsTests s → KeepsTests t
as_before s t r c n o keeps = record {
  few_rows = subst (λ (rows : List RowLine). length rows ≤ row_limit false) (sym r) keeps.few_rows;
  few_columns = subst (λ (columns : List ColumnLines). length columns ≤ col_limit false) (sym c) keeps.few_columns;
  few_numbers = let few = keeps.few_numbers in omega arith;
  rows_apart = subst (λ (rows : List RowLine). AreNamesApart (stated_row_names rows)) (sym r) keeps.rows_apart;
  columns_apart = subst (λ (columns : List ColumnLines). AreNamesApart (names_of_columns columns)) (sym c) keeps.columns_apart;
  objectives_differ = subst AreNamesApart (sym o) keeps.objectives_differ;
  objectives_apart = subst (λ (rows : List RowLine). IsNoRow t.objectives rows) (sym r) (subst (λ (names : List (List ℕ)). IsNoRow names s.rows) (sym o) keeps.objectives_apart);
  numbers =
      subst (λ (rows : List RowLine). AreCounted rows t.objectives t.columns t.count) (sym r)
      (subst (λ (names : List (List ℕ)). AreCounted s.rows names t.columns t.count) (sym o)
      (subst (λ (columns : List ColumnLines). AreCounted s.rows s.objectives columns t.count) (sym c) (subst (λ n. AreCounted s.rows s.objectives s.columns n) (sym n) keeps.numbers)));
}

kept_by_kind : (kind : LineKind) (s : StatedModel) (e : Entry) → KeepsTests s → least (tests_of kind s e) ≡ None → KeepsTests (after_kind kind s e)
kept_by_kind Header s e keeps h = as_before s (after_kind Header s e) refl refl refl refl keeps
kept_by_kind SenseLine s e keeps h = as_before s (after_kind SenseLine s e) refl refl refl refl keeps
kept_by_kind Row s e keeps h = row_step s e keeps h
kept_by_kind Marker s e keeps h = as_before s (after_kind Marker s e) refl refl refl refl keeps
kept_by_kind Column s e keeps h = column_step s e keeps h
kept_by_kind RightSide s e keeps h = as_before s (after_kind RightSide s e) refl refl refl refl keeps
kept_by_kind Range s e keeps h = as_before s (after_kind Range s e) refl refl refl refl keeps
kept_by_kind Bound s e keeps h = as_before s (after_kind Bound s e) refl refl refl refl keeps
kept_by_kind Stray s e keeps h = keeps

kept_behind : (seen : List Entry) (e : Entry) → code_at seen e ≡ None → KeepsTests (stated seen) → KeepsTests (stated (seen ++ e ∷ []))
unfolding code_at after
kept_behind seen e h keeps =
    let s = stated seen in
    subst KeepsTests (sym (stated_more seen e h)) (kept_by_kind (line_kind s.section e) s e keeps (code_of_kind s e (line_kind s.section e) refl h))

kept_at_start : KeepsTests (stated [])
unfolding stated gathered_behind
kept_at_start = record { few_rows = omega arith; few_columns = omega arith; few_numbers = omega arith; rows_apart = λ i j d below later within. absurd (omega arith); columns_apart = λ i j d below later within. absurd (omega arith); objectives_differ = λ i j d below later within. absurd (omega arith); objectives_apart = λ name h. refl; numbers = record { known = tt; counted = refl } }

kept_clean : (seen more : List Entry) → Clean seen more → KeepsTests (stated seen) → KeepsTests (stated (seen ++ more))
kept_clean seen [] clean keeps = subst (λ (es : List Entry). KeepsTests (stated es)) (sym (nothing_more seen)) keeps
kept_clean seen (e ∷ more) clean keeps =
    subst (λ (es : List Entry). KeepsTests (stated es)) (append_assoc seen (e ∷ []) more) (kept_clean (seen ++ e ∷ []) more clean.2 (kept_behind seen e clean.0 keeps))

within_limits : (s : StatedModel) → KeepsTests s → StatesWithinLimits (sections_in s)
within_limits s keeps = record {
  few_rows = keeps.few_rows;
  few_columns = keeps.few_columns;
  few_coefficients = let few = keeps.few_numbers in omega (arith, keeps.numbers.counted);
  rows_apart = keeps.rows_apart;
  columns_apart = keeps.columns_apart;
  objectives_differ = keeps.objectives_differ;
  objectives_apart = keeps.objectives_apart;
}

-- what a whole text states passes no limit, and no name stands twice
pub whole-keeps_limits : (items : List Item) (entries : List Entry) → IsWholeText [] items entries → StatesWithinLimits (stated_sections entries)
whole-keeps_limits items entries whole =
    let before = kept_clean [] whole.before whole.clean kept_at_start in
    within_limits (stated entries) (subst (λ (es : List Entry). KeepsTests (stated es)) (sym whole.all) (kept_behind whole.before whole.last whole.clean_last before))
