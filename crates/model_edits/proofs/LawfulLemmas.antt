-- An edit that fits makes a lawful model of a lawful one.
use Rattle.std.specs.Prelude.{◌≡◌, ◌≢◌, ℕ, suc, ◌+◌, ◌≤◌, Bool, true, false, if◌then◌else◌, not, List, [], ◌∷◌, ◌++◌, length, get_or, map, filter, pos, All, AllPairs, Contains}
use Rattle.std.proofs.Common.{refl, sym, ap, subst, ◌∙◌, arith}
use Rattle.std.proofs.lemmas.List.{map-append, length_push, length-map, get_or_default}
use Rattle.std.proofs.lemmas.List.Elements.{All-push, All-map}
use Rattle.std.proofs.lemmas.List.Quantifiers.{all_pairs_push}
use Rattle.frac128.specs.Rational.{ℚ, int}
use Rattle.frac128.proofs.Comparison.{eq_by_cmp-decides}
use Rattle.lp_model.specs.Program.{Program}
use Rattle.lp_model.specs.Lawful.{AreEntries, IsRange, IsLawfulColumn, row_names, column_names, IsLawful}
use Rattle.lp_model.specs.Edits.{Named, number_beside, numbers_beside, entries_beside, is_zero, with_entry, edited, adds_col, adds_row, EditFits}
use Rattle.lp_model.specs.declared.types.RowId.{RowId}
use Rattle.lp_model.specs.declared.types.Row.{Row}
use Rattle.lp_model.specs.declared.types.Col.{Col}

not_zero : (x : ℚ) → is_zero x ≡ false → x ≢ int (pos 0)
not_zero x e h = let t : is_zero x ≡ true = (eq_by_cmp-decides x (int (pos 0))).1 h in cc

-- ---- entries

entries-earlier : (low from to : ℕ) (es : List (RowId × ℚ)) → low ≤ from → AreEntries from to es → AreEntries low to es
entries-earlier low from to [] h k = tt
entries-earlier low from to (e ∷ es) h k = let first = k.0 in (omega arith, k.1, k.2, k.3)

entries-wider : (from to high : ℕ) (es : List (RowId × ℚ)) → to ≤ high → AreEntries from to es → AreEntries from high es
entries-wider from to high [] h k = tt
entries-wider from to high (e ∷ es) h k = let last = k.1 in (k.0, omega arith, k.2, entries-wider (suc e.0.0) to high es h k.3)

entries-push : (from n : ℕ) (es : List (RowId × ℚ)) (x : ℚ) → from ≤ n → x ≢ int (pos 0) → AreEntries from n es → AreEntries from (n + 1) (es ++ (record { 0 = n }, x) ∷ [])
entries-push from n [] x h some k = (h, omega arith, some, tt)
entries-push from n (e ∷ es) x h some k = let last = k.1 in (k.0, omega arith, k.2, entries-push (suc e.0.0) n es x (omega arith) some k.3)

pub entries_beside-lawful : (k : ℕ) (names : List (List ℕ)) (named : Named) → AreEntries k (k + length names) (entries_beside k names named)
entries_beside-lawful k [] named = tt
entries_beside-lawful k (name ∷ names) named =
    let along : suc k + length names ≡ k + suc (length names) = omega arith in
    by (is_zero (number_beside name named)) refl (subst (λ n. AreEntries (suc k) n (entries_beside (suc k) names named)) along (entries_beside-lawful (suc k) names named))
  where
    by : (b : Bool) → is_zero (number_beside name named) ≡ b → AreEntries (suc k) (k + suc (length names)) (entries_beside (suc k) names named)
        → AreEntries k (k + suc (length names)) (filter (λ e. not (is_zero e.1)) ((record { 0 = k }, number_beside name named) ∷ numbers_beside (suc k) names named))
    by true e rest = rw e (entries-earlier k (suc k) (k + suc (length names)) (entries_beside (suc k) names named) (omega arith) rest)
    by false e rest = rw e (omega arith, omega arith, not_zero (number_beside name named) e, rest)

with_entry-lawful : (n : ℕ) (x : ℚ) (c : Col) → IsLawfulColumn n c → IsLawfulColumn (n + 1) (with_entry n x c)
with_entry-lawful n x c h = record { bounded = h.bounded; entries = by (is_zero x) refl }
  where
    by : (b : Bool) → is_zero x ≡ b → AreEntries 0 (n + 1) (if b then c.rows else c.rows ++ (record { 0 = n }, x) ∷ [])
    by true e = entries-wider 0 n (n + 1) c.rows (omega arith) h.entries
    by false e = entries-push 0 n c.rows x (omega arith) (not_zero x e) h.entries

-- ---- names

apart-push : (names : List (List ℕ)) (name : List ℕ) → AllPairs (λ a b. a ≢ b) names → ¬ Contains names name → AllPairs (λ a b. a ≢ b) (names ++ name ∷ [])
apart-push names name all free = all_pairs_push (λ a b. a ≢ b) names name all (λ k d below e. free (k, below, get_or_default names k name d below ∙ e))

with_row-names : (n : ℕ) (named : Named) (cols : List Col) → map (λ c. c.name) (map (λ c. with_entry n (number_beside c.name named) c) cols) ≡ map (λ c. c.name) cols
with_row-names n named [] = refl
with_row-names n named (c ∷ cols) = ap (λ l. c.name ∷ l) (with_row-names n named cols)

-- ---- the two edits

pub col-lawful : (M : Program) (c : Col) (named : Named) → IsLawful M → EditFits M (adds_col c named) → IsLawful (edited M (adds_col c named))
col-lawful M c named lawful fits =
    let new : Col = record c { rows = entries_beside 0 (map (λ r. r.name) M.rows) named } in
    let long : length (map (λ r. r.name) M.rows) ≡ length M.rows = length-map M.rows (λ r. r.name) in
    let entries : AreEntries 0 (length M.rows) new.rows = entries-wider 0 (0 + length (map (λ r. r.name) M.rows)) (length M.rows) new.rows (omega arith) (entries_beside-lawful 0 (map (λ r. r.name) M.rows) named) in
    record {
      constants = lawful.constants;
      ranges = lawful.ranges;
      columns = All-push (IsLawfulColumn (length M.rows)) M.cols new lawful.columns (record { bounded = fits.bounded; entries = entries });
      rows_distinct = lawful.rows_distinct;
      columns_distinct = subst (AllPairs (λ a b. a ≢ b)) (sym (map-append (λ d. d.name) M.cols (new ∷ []))) (apart-push (column_names M) c.name lawful.columns_distinct fits.free);
      limits = fits.limits;
    }

pub row-lawful : (M : Program) (r : Row) (named : Named) → IsLawful M → EditFits M (adds_row r named) → IsLawful (edited M (adds_row r named))
row-lawful M r named lawful fits =
    let more : length M.rows + 1 ≡ length (M.rows ++ r ∷ []) = sym (length_push M.rows r) in
    let columns : All (IsLawfulColumn (length M.rows + 1)) (map (λ c. with_entry (length M.rows) (number_beside c.name named) c) M.cols) =
    All-map (IsLawfulColumn (length M.rows + 1)) (λ c. with_entry (length M.rows) (number_beside c.name named) c) M.cols
    (λ k d below. with_entry-lawful (length M.rows) (number_beside (get_or M.cols k d).name named) (get_or M.cols k d) (lawful.columns k d below)) in
    record {
      constants = lawful.constants;
      ranges = All-push (λ s. IsRange s.lo s.hi) M.rows r lawful.ranges fits.range;
      columns = subst (λ m. All (IsLawfulColumn m) (map (λ c. with_entry (length M.rows) (number_beside c.name named) c) M.cols)) more columns;
      rows_distinct =
          subst (λ l. AllPairs (λ a b. a ≢ b) (M.obj ∷ M.obj2 ∷ l)) (sym (map-append (λ s. s.name) M.rows (r ∷ [])))
          (apart-push (row_names M) r.name lawful.rows_distinct fits.free);
      columns_distinct = subst (AllPairs (λ a b. a ≢ b)) (sym (with_row-names (length M.rows) named M.cols)) lawful.columns_distinct;
      limits = fits.limits;
    }
