-- The pairs of a lawful model's columns: their names are known and differ, their numbers have room, and no more of them count than the
-- columns have entries.
use Rattle.std.proofs.Common.{◌≡◌, ◌≢◌, ℕ, suc, ◌+◌, ◌<◌, ◌≤◌, Bool, true, false, not, ◌&&◌, List, [], ◌∷◌, ◌++◌, map, length, get_or, refl, sym, ◌∙◌, ap, subst, arith, inl, inr}
use Rattle.std.specs.Prelude.{◌⊎◌, if◌then◌else◌, codes, filter, sum_by, All}
use Rattle.std.proofs.lemmas.Bool.{cases_order}
use Rattle.std.proofs.lemmas.List.{length-map, get_or_default}
use Rattle.std.proofs.lemmas.List.Elements.{All-nil, All-cons, All-append, All-map, All-weaker}
use Rattle.std.proofs.lemmas.List.Sums.{sum_by-cons}
use Rattle.frac128.specs.Rational.{ℚ}
use Rattle.frac128.specs.Range.{Fits}
use Rattle.lp_model.specs.Program.{Program}
use Rattle.lp_model.specs.Edits.{is_zero}
use Rattle.lp_model.specs.Lawful.{row_name, AreEntries, IsLawfulColumn, IsLawful}
use Rattle.lp_model.specs.Limits.{col_limit, entry_limit}
use Rattle.lp_model.proofs.ElementLemmas.{of_element-get, element}
use Rattle.lp_model.specs.declared.types.RowId.{RowId}
use Rattle.lp_model.specs.declared.types.Row.{Row}
use Rattle.lp_model.specs.declared.types.Col.{Col}
use Rattle.mps_fields.specs.Words.{is_key}
use Rattle.mps_sections.specs.Statements.{is_row_name, is_coefficient, coefficients_in}
use Rattle.mps_sections.specs.Faults.{is_known}
use Rattle.mps_sections.specs.declared.statements.RowLine.{RowLine}
use Rattle.mps_sections.specs.declared.statements.RowNumber.{RowNumber}
use Rattle.mps_writer.specs.Canonical.{has_no_number}
use Rattle.lp_model.specs.Fitting.{ColumnNumbersFit, ModelFits}
use Rattle.mps_writer.specs.Writable.{IsField, IsWritableMps}
use Rattle.mps_writer.proofs.RoomLemmas.{places_below}
use Rattle.mps_writer.proofs.RowsBack.{stated_row}
use Rattle.mps_writer.proofs.ColumnsBack.{beside}
use Rattle.mps_writer.proofs.PairsBack.{Named, as_number, IsPair}
use Rattle.mps_writer.proofs.OwnLines.{named_number, entry_pairs, number_pairs, own_pairs}
use Rattle.mps_writer.proofs.ColumnPass.{counted}
use Rattle.mps_writer.proofs.ColumnsPass.{total, IsWritten, AreWritten}
use Rattle.mps_writer.proofs.SetsPass.{AreApart}
use Rattle.mps_writer.proofs.WholePass.{at_columns}
use Rattle.mps_writer.proofs.NamePremises.{all_unmapped, name_of, objective_short, objective2_short, rows_field, columns_field, rows_apart, columns_apart, from_objective, from_objective2, objective_unstated, objective2_unstated, objective_known, objective2_known, row_known}
use Rattle.mps_writer.proofs.RowPairs.{named_all, none_apart, pair_before, named_before}

-- ---- entries

-- entries from a row on are of that row or later ones
places_from : (from to : ℕ) (es : List (RowId × ℚ)) → AreEntries from to es → All (λ (e : RowId × ℚ). from ≤ e.0.0) es
places_from from to [] h = All-nil (λ (e : RowId × ℚ). from ≤ e.0.0)
places_from from to (e ∷ es) h =
    let first = h.0 in
    All-cons (λ (d : RowId × ℚ). from ≤ d.0.0) e es first
    (All-weaker (λ (d : RowId × ℚ). suc e.0.0 ≤ d.0.0) (λ (d : RowId × ℚ). from ≤ d.0.0) (λ d k. omega (arith, first, k)) es (places_from (suc e.0.0) to es h.3))

abbrev pub entry_pair : Program → RowId × ℚ → Named
entry_pair M e = (row_name M e.0.0, e.1)

-- what holds of both costs beside their objectives' names, and of the entries beside their rows', holds of all pairs
pub own_all : (M : Program) (c : Col) (P : Named → Type 0) → P (M.obj, c.cost) → P (M.obj2, c.cost2) → All P (entry_pairs M c) → All P (own_pairs M c)
own_all M c P first second entries = by (has_no_number c)
  where
    by : (b : Bool) → All P (if b then (M.obj, c.cost) ∷ [] else number_pairs M c)
    by true = All-cons P (M.obj, c.cost) [] first (All-nil P)
    by false =
        All-append P (named_number M.obj c.cost) (named_number M.obj2 c.cost2 ++ entry_pairs M c) (named_all P M.obj c.cost first)
        (All-append P (named_number M.obj2 c.cost2) (entry_pairs M c) (named_all P M.obj2 c.cost2 second) entries)

-- ---- counts

filter_short : {A : Type 0} (p : A → Bool) (xs : List A) → length (filter p xs) ≤ length xs
filter_short p [] = omega arith
filter_short p (x ∷ xs) = by (p x) (filter_short p xs)
  where
    by : (b : Bool) → length (filter p xs) ≤ length xs → length (if b then x ∷ filter p xs else filter p xs) ≤ length (x ∷ xs)
    by true h = omega (arith, h)
    by false h = omega (arith, h)

-- a number beside a name without sides doesn't count
uncounted : (sided : List RowLine) (name : List ℕ) (x : ℚ) (more : List RowNumber) → is_row_name sided name ≡ false → length (coefficients_in sided (beside name x ∷ more)) ≡ length (coefficients_in sided more)
uncounted sided name x more e = ap (λ b. length (if b && not (is_zero x) then beside name x ∷ coefficients_in sided more else coefficients_in sided more)) e

named_uncounted : (sided : List RowLine) (name : List ℕ) (x : ℚ) (more : List Named) → is_row_name sided name ≡ false → length (coefficients_in sided (map as_number (named_number name x ++ more))) ≡ length (coefficients_in sided (map as_number more))
named_uncounted sided name x more e = by (is_zero x)
  where
    by : (b : Bool) → length (coefficients_in sided (map as_number ((if b then [] else (name, x) ∷ []) ++ more))) ≡ length (coefficients_in sided (map as_number more))
    by true = refl
    by false = uncounted sided name x (map as_number more) e

module _ (M : Program) (h : IsLawful M) (w : IsWritableMps M) where
  -- ---- rows by their places

  pub named_row : (i : ℕ) (d : Row) → i < length M.rows → row_name M i ≡ (get_or M.rows i d).name
  named_row i d below = of_element-get [] name_of M.rows i (get_or M.rows i d) below (get_or_default M.rows i d (get_or M.rows i d) below)

  -- what holds of each row's name holds of that at a place
  pub at_place : (P : List ℕ → Type 0) → All (λ (r : Row). P r.name) M.rows → (i : ℕ) → i < length M.rows → P (row_name M i)
  at_place P all i below = let d = (element M.rows i below).0 in subst P (sym (named_row i d below)) (all i d below)

  names_below : (i j : ℕ) → i < j → j < length M.rows → row_name M i ≢ row_name M j
  names_below i j before below = λ e.
      let within : i < length M.rows = omega (arith, before, below) in
      let d = (element M.rows i within).0 in
      rows_apart M h w i j d before below (sym (named_row i d within) ∙ e ∙ named_row j d below)

  -- rows at different places have different names
  pub differ : (i j : ℕ) → i < length M.rows → j < length M.rows → row_name M i ≡ row_name M j → i ≡ j
  differ i j a b e = by (cases_order i j)
    where
      by : (i ≡ j) ⊎ ((i < j) ⊎ (j < i)) → i ≡ j
      by (inl same) = same
      by (inr (inl less)) = absurd (names_below i j less b e)
      by (inr (inr more)) = absurd (names_below j i more a (sym e))

  rows_unmarked : All (λ (r : Row). is_key (codes "'MARKER'") r.name ≡ false) M.rows
  rows_unmarked = all_unmapped name_of (λ name. is_key (codes "'MARKER'") name ≡ false) M.rows (λ i d below. w.unmarked (suc (suc i)) d (omega (arith, below)))

  -- ---- what the lines need of each pair

  objective_pair : (x : ℚ) → Fits x → IsPair (at_columns M) (M.obj, x)
  objective_pair x fits = record { fits = fits; unmarked = w.unmarked 0 [] (omega arith); short = objective_short M h w; known = objective_known M h w }

  objective2_pair : (x : ℚ) → Fits x → IsPair (at_columns M) (M.obj2, x)
  objective2_pair x fits = record { fits = fits; unmarked = w.unmarked 1 [] (omega arith); short = objective2_short M h w; known = objective2_known M h w }

  row_pair : (i : ℕ) (x : ℚ) → i < length M.rows → Fits x → IsPair (at_columns M) (row_name M i, x)
  row_pair i x below fits = record {
    fits = fits;
    unmarked = at_place (λ name. is_key (codes "'MARKER'") name ≡ false) rows_unmarked i below;
    short = (at_place IsField (rows_field M h w) i below).short;
    known = at_place (λ name. is_known (at_columns M) name ≡ true) (row_known M h w) i below;
  }

  entries_good : (c : Col) → AreEntries 0 (length M.rows) c.rows → All (λ (e : RowId × ℚ). Fits e.1) c.rows → All (IsPair (at_columns M)) (entry_pairs M c)
  entries_good c entries fits =
      All-map (IsPair (at_columns M)) (entry_pair M) c.rows (λ k d below.
      row_pair (get_or c.rows k d).0.0 (get_or c.rows k d).1 (places_below 0 (length M.rows) c.rows entries k d below) (fits k d below))

  -- ---- names differ

  pub entries_named : (P : List ℕ → Type 0) → All (λ (r : Row). P r.name) M.rows → (es : List (RowId × ℚ)) → AreEntries 0 (length M.rows) es → All (λ (q : Named). P q.0) (map (entry_pair M) es)
  entries_named P all es entries = All-map (λ (q : Named). P q.0) (entry_pair M) es (λ k d below. at_place P all (get_or es k d).0.0 (places_below 0 (length M.rows) es entries k d below))

  entries_apart : (from : ℕ) (es : List (RowId × ℚ)) → AreEntries from (length M.rows) es → AreApart (map (entry_pair M) es)
  entries_apart from [] entries = none_apart
  entries_apart from (e ∷ es) entries =
      let rest = entries.3 in
      pair_before (entry_pair M e) (map (entry_pair M) es)
      (All-map (λ (q : Named). row_name M e.0.0 ≢ q.0) (entry_pair M) es (λ k d below.
      names_below e.0.0 (get_or es k d).0.0 (places_from (suc e.0.0) (length M.rows) es rest k d below) (places_below (suc e.0.0) (length M.rows) es rest k d below)))
      (entries_apart (suc e.0.0) es rest)

  objectives_apart : M.obj ≢ M.obj2
  objectives_apart = h.rows_distinct 0 1 [] (omega arith) (omega arith)

  own_apart : (c : Col) → AreEntries 0 (length M.rows) c.rows → AreApart (own_pairs M c)
  own_apart c entries = by (has_no_number c)
    where
      by : (b : Bool) → AreApart (if b then (M.obj, c.cost) ∷ [] else number_pairs M c)
      by true = pair_before (M.obj, c.cost) [] (All-nil (λ (q : Named). M.obj ≢ q.0)) none_apart
      by false =
          named_before M.obj c.cost (named_number M.obj2 c.cost2 ++ entry_pairs M c)
          (All-append (λ (q : Named). M.obj ≢ q.0) (named_number M.obj2 c.cost2) (entry_pairs M c) (named_all (λ (q : Named). M.obj ≢ q.0) M.obj2 c.cost2 objectives_apart)
          (entries_named (λ name. M.obj ≢ name) (from_objective M h w) c.rows entries))
          (named_before M.obj2 c.cost2 (entry_pairs M c) (entries_named (λ name. M.obj2 ≢ name) (from_objective2 M h w) c.rows entries) (entries_apart 0 c.rows entries))

  -- ---- no more count than there are entries

  abbrev pub sided : List RowLine
  sided = map stated_row M.rows

  own_few : (c : Col) → counted (at_columns M) (own_pairs M c) ≤ length c.rows
  own_few c = by (has_no_number c)
    where
      by : (b : Bool) → length (coefficients_in sided (map as_number (if b then (M.obj, c.cost) ∷ [] else number_pairs M c))) ≤ length c.rows
      by true = omega (arith, uncounted sided M.obj c.cost [] (objective_unstated M h w))
      by false =
          omega (
            arith,
            named_uncounted sided M.obj c.cost (named_number M.obj2 c.cost2 ++ entry_pairs M c) (objective_unstated M h w),
            named_uncounted sided M.obj2 c.cost2 (entry_pairs M c) (objective2_unstated M h w),
            filter_short (is_coefficient sided) (map as_number (entry_pairs M c)),
            length-map (entry_pairs M c) as_number,
            length-map c.rows (entry_pair M),
          )

  total_few : (cols : List Col) → total M (at_columns M) cols ≤ sum_by (λ (c : Col). length c.rows) cols
  total_few [] = omega arith
  total_few (c ∷ cols) = omega (arith, own_few c, total_few cols, sum_by-cons (λ (d : Col). length d.rows) c cols)

  -- ---- all columns

  column_written : (c : Col) → IsField c.name → IsLawfulColumn (length M.rows) c → ColumnNumbersFit c → IsWritten M (at_columns M) c
  column_written c name lawful fits = record {
    short = name.short;
    pairs = own_all M c (IsPair (at_columns M)) (objective_pair c.cost fits.cost) (objective2_pair c.cost2 fits.cost2) (entries_good c lawful.entries fits.entries);
    apart = own_apart c lawful.entries;
  }

  pub columns_written : ModelFits M → AreWritten M (at_columns M) M.cols
  columns_written f =
      let few = subst (λ wide. length M.cols ≤ col_limit wide) w.plain h.limits.few_columns in
      let entries = subst (λ wide. sum_by (λ (c : Col). length c.rows) M.cols ≤ entry_limit wide) w.plain h.limits.few_entries in
      let within : 0 + length M.cols ≤ col_limit false = omega (arith, few) in
      let room : 0 + total M (at_columns M) M.cols ≤ 50000 = omega (arith, entries, total_few M.cols) in
      record {
        there = refl;
        out = refl;
        each = λ i d below. column_written (get_or M.cols i d) (columns_field M h w i d below) (h.columns i d below) (f.columns i d below);
        new = λ i d below. refl;
        apart = columns_apart M h w;
        few = within;
        room = room;
      }
