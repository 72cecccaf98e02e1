-- The model that the lists of a whole text mean is lawful: its rows have ranges, its columns two bounds and entries that rise,
-- its names differ, and no limit is passed.
use Rattle.std.proofs.Common.{◌≡◌, ◌≢◌, ℕ, zero, suc, ◌+◌, ◌<◌, ◌≤◌, Bool, true, false, ◌&&◌, ◌||◌, not, List, [], ◌∷◌, ◌++◌, map, length, refl, sym, ◌∙◌, ap, subst, arith, pos, length-append, Contains}
use Rattle.std.specs.Prelude.{Option, None, Some, if◌then◌else◌, codes, bytes_eq, All, IsTrue, IsSome, is_some, sum_by}
use Rattle.std.specs.List.{list_all}
use Rattle.std.proofs.lemmas.Bool.{and_parts, or_left, or_right, or_parts, or_from, true≢false, false_from_ne_true}
use Rattle.std.proofs.lemmas.List.{length-map, get_or_default}
use Rattle.std.proofs.lemmas.List.Elements.{All-nil, All-cons}
use Rattle.std.proofs.lemmas.List.Folds.{list_any-append}
use Rattle.std.proofs.lemmas.List.Sums.{sum_by-cons}
use Rattle.std.proofs.lemmas.Slice.Eq.{bytes_eq-Decides}
use Rattle.frac128.specs.Rational.{ℚ, int, neg_ℚ}
use Rattle.lp_model.specs.Limits.{row_limit}
use Rattle.lp_model.specs.Lawful.{IsRange, AreEntries, IsLawfulColumn, IsLawful}
use Rattle.lp_model.specs.declared.types.RowId.{RowId}
use Rattle.lp_model.specs.declared.types.Row.{Row}
use Rattle.lp_model.specs.declared.types.Col.{Col}
use Rattle.mps_fields.specs.Words.{among}
use Rattle.lp_model.specs.Edits.{is_zero}
use Rattle.mps_sections.specs.Statements.{coefficients_in, stated_row_names}
use Rattle.mps_sections.specs.Limits.{AreNamesApart, names_of_columns, coefficient_count, StatesWithinLimits}
use Rattle.mps_sections.specs.declared.statements.Sections.{Sections}
use Rattle.mps_sections.specs.declared.statements.RowLine.{RowLine}
use Rattle.mps_sections.specs.declared.statements.RowNumber.{RowNumber}
use Rattle.mps_sections.specs.declared.statements.ColumnLines.{ColumnLines}
use Rattle.frac128.proofs.Comparison.{eq_by_cmp-decides}
use Rattle.mps_sections.proofs.StatedLimits.{not_among, row_among}
use Rattle.mps_model.specs.Meaning.{row_numbers_beside, row_entries_from, row_of, column_of, model_of, free_name, objective_or, second_or, objective_name, second_name, beside_objective, beside_second}
use Rattle.mps_model.specs.Faults.{column_flaw}
use Rattle.mps_sections.proofs.ListFacts.{bytes_eq-flips}
use Rattle.mps_model.proofs.EntryCounts.{few_entries}
use Rattle.mps_model.proofs.NamedItems.{first_alone}
use Rattle.mps_model.proofs.FreeNames.{never_taken}
use Rattle.mps_model.proofs.BoundedColumns.{is_bounded_column, flawless}

-- ---- names

few_names : (sided : List RowLine) → length sided ≤ row_limit false → length (stated_row_names sided) ≤ row_limit false
few_names sided few = omega (arith, length-map sided (λ (r : RowLine). r.name))

objective_new : (s : Sections) → StatesWithinLimits s → among (stated_row_names s.rows) (objective_name s) ≡ false
objective_new s keeps = by s.objectives refl
  where
    by : (found : List (List ℕ)) → s.objectives ≡ found → among (stated_row_names s.rows) (objective_or found (free_name (stated_row_names s.rows) (codes "OBJ"))) ≡ false
    by [] e = never_taken (stated_row_names s.rows) (codes "OBJ") (let few = few_names s.rows keeps.few_rows in omega arith)
    by (name ∷ ignored) e =
        let own : among s.objectives name ≡ true = ap (λ (names : List (List ℕ)). among names name) e ∙ or_left (bytes_eq name name) (among ignored name) ((bytes_eq-Decides name name).1 refl) in
        row_among s.rows name ∙ keeps.objectives_apart name own

second_missing : Sections → List ℕ
second_missing s = free_name (stated_row_names s.rows ++ objective_name s ∷ []) (codes "OBJ2")

-- a free name is neither a row's nor the objective's
missing_new : (s : Sections) → StatesWithinLimits s → (among (stated_row_names s.rows) (second_missing s) ≡ false) × (bytes_eq (objective_name s) (second_missing s) ≡ false)
unfolding second_missing
missing_new s keeps =
    let taken = stated_row_names s.rows ++ objective_name s ∷ [] in
    let name = second_missing s in
    let free = never_taken taken (codes "OBJ2") (let few = few_names s.rows keeps.few_rows in omega (arith, length-append (stated_row_names s.rows) (objective_name s ∷ []))) in
    let parts = or_parts (among (stated_row_names s.rows) name) (among (objective_name s ∷ []) name) (sym (list_any-append (λ (other : List ℕ). bytes_eq other name) (stated_row_names s.rows) (objective_name s ∷ [])) ∙ free) in
    (parts.0, (or_parts (bytes_eq (objective_name s) name) false parts.1).0)

own_name : (name : List ℕ) (others : List (List ℕ)) → among (name ∷ others) name ≡ true
own_name name others = or_left (bytes_eq name name) (among others name) ((bytes_eq-Decides name name).1 refl)

second_new : (s : Sections) → StatesWithinLimits s → among (stated_row_names s.rows) (second_name s) ≡ false
unfolding second_missing
second_new s keeps = by s.objectives refl
  where
    by : (found : List (List ℕ)) → s.objectives ≡ found → among (stated_row_names s.rows) (second_or found (free_name (stated_row_names s.rows ++ objective_name s ∷ []) (codes "OBJ2"))) ≡ false
    by [] e = (missing_new s keeps).0
    by (first ∷ []) e = (missing_new s keeps).0
    by (first ∷ name ∷ ignored) e =
        let own : among s.objectives name ≡ true = ap (λ (names : List (List ℕ)). among names name) e ∙ or_right (bytes_eq first name) (among (name ∷ ignored) name) (own_name name ignored) in
        row_among s.rows name ∙ keeps.objectives_apart name own

-- the second objective's name is not the first one's
second_apart : (s : Sections) → StatesWithinLimits s → bytes_eq (objective_name s) (second_name s) ≡ false
unfolding second_missing
second_apart s keeps = by s.objectives refl
  where
    by : (found : List (List ℕ)) → s.objectives ≡ found → bytes_eq (objective_name s) (second_or found (free_name (stated_row_names s.rows ++ objective_name s ∷ []) (codes "OBJ2"))) ≡ false
    by [] e = (missing_new s keeps).1
    by (first ∷ []) e = (missing_new s keeps).1
    by (first ∷ name ∷ ignored) e =
        let named : objective_name s ≡ first = ap (λ (names : List (List ℕ)). objective_or names (free_name (stated_row_names s.rows) (codes "OBJ"))) e in
        let alone : among (name ∷ ignored) first ≡ false = first_alone first (name ∷ ignored) (subst AreNamesApart e keeps.objectives_differ) in
        ap (λ (n : List ℕ). bytes_eq n name) named ∙ bytes_eq-flips first name ∙ (or_parts (bytes_eq name first) (among ignored first) alone).0

apart_cons : (name : List ℕ) (names : List (List ℕ)) → ¬ Contains names name → AreNamesApart names → AreNamesApart (name ∷ names)
apart_cons name names new apart zero zero d below within e = absurd (omega arith)
apart_cons name names new apart zero (suc j) d below within e = let w : j < length names = omega (arith, within) in new (j, w, get_or_default names j name d w ∙ sym e)
apart_cons name names new apart (suc i) zero d below within e = absurd (omega arith)
apart_cons name names new apart (suc i) (suc j) d below within e = apart i j d (omega (arith, below)) (omega (arith, within)) e

rows_kept : (s : Sections) (found : List RowLine) → map (λ r. r.name) (map (row_of s) found) ≡ stated_row_names found
rows_kept s [] = refl
rows_kept s (r ∷ more) = ap (λ names. r.name ∷ names) (rows_kept s more)

columns_kept : (s : Sections) (intupper : Option ℕ) (found : List ColumnLines) → map (λ c. c.name) (map (column_of s intupper) found) ≡ names_of_columns found
columns_kept s intupper [] = refl
columns_kept s intupper (c ∷ found) = ap (λ names. c.name ∷ names) (columns_kept s intupper found)

row_names_apart : (s : Sections) → StatesWithinLimits s → AreNamesApart (objective_name s ∷ second_name s ∷ stated_row_names s.rows)
row_names_apart s keeps =
    let names = stated_row_names s.rows in
    let first : among (second_name s ∷ names) (objective_name s) ≡ false =
    or_from (bytes_eq (second_name s) (objective_name s)) (among names (objective_name s))
    (false_from_ne_true (bytes_eq (second_name s) (objective_name s)) (λ e. true≢false (sym ((bytes_eq-Decides (objective_name s) (second_name s)).1 (sym ((bytes_eq-Decides (second_name s) (objective_name s)).0 e))) ∙ second_apart s keeps)))
    (objective_new s keeps)
    in
    apart_cons (objective_name s) (second_name s ∷ names) (not_among (second_name s ∷ names) (objective_name s) first)
    (apart_cons (second_name s) names (not_among names (second_name s) (second_new s keeps)) keeps.rows_apart)

-- ---- columns

two_bounds : (integer : Bool) (lower upper : Option ℚ) → not integer || (is_some lower && is_some upper) ≡ true → IsTrue integer → IsSome lower × IsSome upper
two_bounds true (Some l) (Some u) e h = (refl, refl)
two_bounds true (Some l) None e h = absurd (cc)
two_bounds true None u e h = absurd (cc)
two_bounds false l u e h = absurd (cc)

number_not_zero : (x : ℚ) → is_zero x ≡ false → x ≢ int (pos 0)
number_not_zero x e h = true≢false (sym ((eq_by_cmp-decides x (int (pos 0))).1 h) ∙ e)

abbrev entry : ℕ → ℚ → RowId × ℚ
entry k x = (record { 0 = k }, x)

entries_rise : (numbers : List ℚ) (from k to : ℕ) → from ≤ k → k + length numbers ≤ to → AreEntries from to (row_entries_from k numbers)
entries_rise [] from k to below within = tt
entries_rise (x ∷ numbers) from k to below within = by (is_zero x) refl (entries_rise numbers from (suc k) to (omega (arith, below)) (omega (arith, within))) (entries_rise numbers (suc k) (suc k) to (omega arith) (omega (arith, within)))
  where
    by : (b : Bool) → is_zero x ≡ b → AreEntries from to (row_entries_from (suc k) numbers) → AreEntries (suc k) to (row_entries_from (suc k) numbers) → AreEntries from to (if b then row_entries_from (suc k) numbers else entry k x ∷ row_entries_from (suc k) numbers)
    by true e rest later = rest
    by false e rest later = (below, omega (arith, within), number_not_zero x e, later)

pub length_beside : (sided : List RowLine) (found : List RowNumber) → length (row_numbers_beside (stated_row_names sided) found) ≡ length sided
length_beside [] found = refl
length_beside (r ∷ sided) found = ap suc (length_beside sided found)

lawful_columns : (s : Sections) (intupper : Option ℕ) (n : ℕ) (found : List ColumnLines) → length s.rows ≡ n → list_all is_bounded_column (map (column_of s intupper) found) ≡ true → All (IsLawfulColumn n) (map (column_of s intupper) found)
lawful_columns s intupper n [] e h = All-nil (IsLawfulColumn n)
lawful_columns s intupper n (c ∷ found) e h =
    let parts = and_parts (is_bounded_column (column_of s intupper c)) (list_all is_bounded_column (map (column_of s intupper) found)) h in
    All-cons (IsLawfulColumn n) (column_of s intupper c) (map (column_of s intupper) found) (record {
      bounded = two_bounds (column_of s intupper c).int (column_of s intupper c).lo (column_of s intupper c).up parts.0;
      entries = entries_rise (row_numbers_beside (stated_row_names s.rows) c.numbers) 0 0 n (omega arith) (omega (arith, length_beside s.rows c.numbers, e));
    }) (lawful_columns s intupper n found e parts.1)

entries_within : (s : Sections) (intupper : Option ℕ) (found : List ColumnLines) → AreNamesApart (stated_row_names s.rows) → sum_by (λ (c : Col). length c.rows) (map (column_of s intupper) found) ≤ coefficient_count s.rows found
entries_within s intupper [] apart = omega arith
entries_within s intupper (c ∷ found) apart =
    omega (
      arith,
      sum_by-cons (λ (d : Col). length d.rows) (column_of s intupper c) (map (column_of s intupper) found),
      sum_by-cons (λ (d : ColumnLines). length (coefficients_in s.rows d.numbers)) c found,
      few_entries s.rows 0 c.numbers apart,
      entries_within s intupper found apart,
    )

-- the model is lawful, where its rows have ranges
pub meant-lawful : (s : Sections) (intupper : Option ℕ) → StatesWithinLimits s → column_flaw intupper s.bounds s.columns ≡ None → All (λ (r : Row). IsRange r.lo r.hi) (map (row_of s) s.rows) → IsLawful (model_of s intupper)
unfolding model_of
meant-lawful s intupper keeps flaw ranges =
    let rows = length-map s.rows (row_of s) in
    let columns = length-map s.columns (column_of s intupper) in
    record {
      constants = refl;
      ranges = ranges;
      columns = lawful_columns s intupper (length (map (row_of s) s.rows)) s.columns (sym rows) (flawless s intupper s.columns flaw);
      rows_distinct = subst (λ (names : List (List ℕ)). AreNamesApart (objective_name s ∷ second_name s ∷ names)) (sym (rows_kept s s.rows)) (row_names_apart s keeps);
      columns_distinct = subst AreNamesApart (sym (columns_kept s intupper s.columns)) keeps.columns_apart;
      limits = record {
        few_rows = let few = keeps.few_rows in omega (arith, rows);
        few_columns = let few = keeps.few_columns in omega (arith, columns);
        few_entries = let few = keeps.few_coefficients in omega (arith, entries_within s intupper s.columns keeps.rows_apart);
      };
    }

pub parts_are : (s : Sections) (intupper : Option ℕ) (obj obj2 : List ℕ) (constant second : ℚ) (rows : List Row) (cols : List Col) → obj ≡ objective_name s → obj2 ≡ second_name s → constant ≡ neg_ℚ (beside_objective s.objectives s.sides) → second ≡ neg_ℚ (beside_second s.objectives s.sides)
    → rows ≡ map (row_of s) s.rows → cols ≡ map (column_of s intupper) s.columns → record { sense = s.sense; obj = obj; obj2 = obj2; consts = constant ∷ second ∷ []; rows = rows; cols = cols; wide = false } ≡ model_of s intupper
unfolding model_of
parts_are s intupper obj obj2 constant second rows cols a b c d e f = cc
