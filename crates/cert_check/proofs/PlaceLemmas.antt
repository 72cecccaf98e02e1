-- The places of columns and rows by their names.
use Rattle.std.proofs.Common.{◌≡◌, ◌≢◌, ℕ, suc, ◌<◌, List, [], length, get_or, subst, arith}
use Rattle.std.specs.Prelude.{AllPairs, Contains, Option, Some, None, MatchOption}
use Rattle.std.proofs.lemmas.List.{length-map}
use Rattle.lp_model.specs.Program.{Program}
use Rattle.lp_model.specs.Lawful.{column_names, row_names}
use Rattle.lp_model.specs.declared.types.ColId.{ColId}
use Rattle.lp_model.specs.declared.types.RowId.{RowId}
use Rattle.lp_model.specs.Edits.{only_row_names, place_in}
use Rattle.cert_check.proofs.PairLemmas.{place_is, place_contained}

abbrev pub column_told : Program → List ℕ → Option ColId → Type 0
column_told M name found = MatchOption found (¬ Contains (column_names M) name) (λ col. (col.0 < length M.cols) × (get_or (column_names M) col.0 [] ≡ name))

abbrev pub row_told : Program → List ℕ → Option RowId → Type 0
row_told M name found = MatchOption found (¬ Contains (only_row_names M) name) (λ row. (row.0 < length M.rows) × (get_or (only_row_names M) row.0 [] ≡ name))

pub column_found : (M : Program) (name : List ℕ) (found : Option ColId) → AllPairs (λ a b. a ≢ b) (column_names M) → column_told M name found →
    MatchOption found (¬ Contains (column_names M) name) (λ col. (col.0 < length M.cols) × (col.0 ≡ place_in (column_names M) name))
column_found M name None once told = told
column_found M name (Some col) once told = (told.0, place_is (column_names M) name col.0 once (rw (length-map M.cols (λ c. c.name)) told.0) told.1)

pub row_found : (M : Program) (name : List ℕ) (found : Option RowId) → AllPairs (λ a b. a ≢ b) (only_row_names M) → row_told M name found →
    MatchOption found (¬ Contains (only_row_names M) name) (λ row. (row.0 < length M.rows) × (row.0 ≡ place_in (only_row_names M) name))
row_found M name None once told = told
row_found M name (Some row) once told = (told.0, place_is (only_row_names M) name row.0 once (rw (length-map M.rows (λ r. r.name)) told.0) told.1)

-- objectives and rows differ, so rows do
pub rows_differ : (M : Program) → AllPairs (λ a b. a ≢ b) (row_names M) → AllPairs (λ a b. a ≢ b) (only_row_names M)
rows_differ M once i j d early late = once (suc (suc i)) (suc (suc j)) d (omega (arith, early)) (omega (arith, late))

pub column_known : (M : Program) (name : List ℕ) (k : ℕ) → (k < length M.cols) × (k ≡ place_in (column_names M) name) → Contains (column_names M) name
column_known M name k found = place_contained (column_names M) name (subst (λ n. n < length (column_names M)) found.1 (rw (length-map M.cols (λ c. c.name)) found.0))

pub row_known : (M : Program) (name : List ℕ) (k : ℕ) → (k < length M.rows) × (k ≡ place_in (only_row_names M) name) → Contains (only_row_names M) name
row_known M name k found = place_contained (only_row_names M) name (subst (λ n. n < length (only_row_names M)) found.1 (rw (length-map M.rows (λ r. r.name)) found.0))
