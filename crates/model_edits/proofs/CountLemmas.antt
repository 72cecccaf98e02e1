-- How many rows, columns and entries an edit makes.
use Rattle.std.specs.Prelude.{◌≡◌, ℕ, suc, ◌+◌, Bool, true, false, if◌then◌else◌, not, List, [], ◌∷◌, ◌++◌, length, map, filter, sum_by}
use Rattle.std.proofs.Common.{refl, sym, ap, ap₂, subst, ◌∙◌, arith}
use Rattle.std.proofs.lemmas.List.{length_push, length-map}
use Rattle.std.proofs.lemmas.List.Sums.{sum_by-cons, sum_by_push}
use Rattle.frac128.specs.Rational.{ℚ}
use Rattle.lp_model.specs.Program.{Program}
use Rattle.lp_model.specs.Lawful.{AreWithinLimits, entry_count}
use Rattle.lp_model.specs.Edits.{Named, number_beside, numbers_beside, entries_beside, is_zero, with_entry, edited, adds_col, adds_row, KeepsLimits}
use Rattle.model_edits.specs.Faults.{PassesLimit}
use Rattle.lp_model.specs.declared.types.RowId.{RowId}
use Rattle.lp_model.specs.declared.types.Row.{Row}
use Rattle.lp_model.specs.declared.types.Col.{Col}

-- one entry more, or none
entry_added : (k n : ℕ) (x : ℚ) (c : Col) (rest : List (RowId × ℚ)) →
    length (with_entry n x c).rows + length (filter (λ e. not (is_zero e.1)) rest) ≡ length c.rows + length (filter (λ e. not (is_zero e.1)) ((record { 0 = k }, x) ∷ rest))
entry_added k n x c rest = by (is_zero x) refl
  where
    by : (b : Bool) → is_zero x ≡ b →
        length (if b then c.rows else c.rows ++ (record { 0 = n }, x) ∷ []) + length (filter (λ e. not (is_zero e.1)) rest)
        ≡ length c.rows + length (filter (λ e. not (is_zero e.1)) ((record { 0 = k }, x) ∷ rest))
    by true e = rw e refl
    by false e =
        let more : length (c.rows ++ (record { 0 = n }, x) ∷ []) ≡ length c.rows + 1 = length_push c.rows (record { 0 = n }, x) in
        rw e (omega arith)

-- a row's entries, counted by columns
row_entries : (k n : ℕ) (named : Named) (cols : List Col) →
    sum_by (λ c. length c.rows) (map (λ c. with_entry n (number_beside c.name named) c) cols)
    ≡ sum_by (λ c. length c.rows) cols + length (entries_beside k (map (λ c. c.name) cols) named)
row_entries k n named [] = refl
row_entries k n named (c ∷ cols) =
    let x = number_beside c.name named in
    let changed = map (λ d. with_entry n (number_beside d.name named) d) cols in
    let left : sum_by (λ d. length d.rows) (with_entry n x c ∷ changed) ≡ length (with_entry n x c).rows + sum_by (λ d. length d.rows) changed = sum_by-cons (λ d. length d.rows) (with_entry n x c) changed in
    let right : sum_by (λ d. length d.rows) (c ∷ cols) ≡ length c.rows + sum_by (λ d. length d.rows) cols = sum_by-cons (λ d. length d.rows) c cols in
    let rest = row_entries (suc k) n named cols in
    let one = entry_added k n x c (numbers_beside (suc k) (map (λ d. d.name) cols) named) in
    omega arith

module _ (M : Program) (rows : List Row) (cols : List Col) (wide : Bool) (entries added : ℕ) (rows_is : rows ≡ M.rows) (cols_is : cols ≡ M.cols) (wide_is : wide ≡ M.wide) (entries_is : entries ≡ sum_by (λ c. length c.rows) cols) where
  module _ (c : Col) (named : Named) (added_is : added ≡ length (entries_beside 0 (map (λ r. r.name) rows) named)) where
    more_columns : length cols + 1 ≡ length (edited M (adds_col c named)).cols
    more_columns = ap (λ l. length l + 1) cols_is ∙ sym (length_push M.cols (record c { rows = entries_beside 0 (map (λ r. r.name) M.rows) named }))

    more_entries : entries + added ≡ entry_count (edited M (adds_col c named))
    more_entries =
        ap₂ ◌+◌ (entries_is ∙ ap (sum_by (λ d. length d.rows)) cols_is) (added_is ∙ ap (λ l. length (entries_beside 0 (map (λ r. r.name) l) named)) rows_is)
        ∙ sym (sum_by_push (λ d. length d.rows) M.cols (record c { rows = entries_beside 0 (map (λ r. r.name) M.rows) named }))

    pub col_passes : (n : ℕ) → PassesLimit wide (length rows) (length cols + 1) (entries + added) n
        → PassesLimit M.wide (length (edited M (adds_col c named)).rows) (length (edited M (adds_col c named)).cols) (entry_count (edited M (adds_col c named))) n
    col_passes n h = subst (λ P. P) (λ i. PassesLimit (wide_is i) (length (rows_is i)) (more_columns i) (more_entries i) n) h

    pub col_within : AreWithinLimits wide (length rows) (length cols + 1) (entries + added) → KeepsLimits M (adds_col c named)
    col_within h = subst (λ P. P) (λ i. AreWithinLimits (wide_is i) (length (rows_is i)) (more_columns i) (more_entries i)) h

  module _ (r : Row) (named : Named) (added_is : added ≡ length (entries_beside 0 (map (λ c. c.name) cols) named)) where
    more_rows : length rows + 1 ≡ length (edited M (adds_row r named)).rows
    more_rows = ap (λ l. length l + 1) rows_is ∙ sym (length_push M.rows r)

    same_columns : length cols ≡ length (edited M (adds_row r named)).cols
    same_columns = ap length cols_is ∙ sym (length-map M.cols (λ c. with_entry (length M.rows) (number_beside c.name named) c))

    more_entries' : entries + added ≡ entry_count (edited M (adds_row r named))
    more_entries' =
        ap₂ ◌+◌ (entries_is ∙ ap (sum_by (λ d. length d.rows)) cols_is) (added_is ∙ ap (λ l. length (entries_beside 0 (map (λ d. d.name) l) named)) cols_is)
        ∙ sym (row_entries 0 (length M.rows) named M.cols)

    pub row_passes : (n : ℕ) → PassesLimit wide (length rows + 1) (length cols) (entries + added) n
        → PassesLimit M.wide (length (edited M (adds_row r named)).rows) (length (edited M (adds_row r named)).cols) (entry_count (edited M (adds_row r named))) n
    row_passes n h = subst (λ P. P) (λ i. PassesLimit (wide_is i) (more_rows i) (same_columns i) (more_entries' i) n) h

    pub row_within : AreWithinLimits wide (length rows + 1) (length cols) (entries + added) → KeepsLimits M (adds_row r named)
    row_within h = subst (λ P. P) (λ i. AreWithinLimits (wide_is i) (more_rows i) (same_columns i) (more_entries' i)) h
