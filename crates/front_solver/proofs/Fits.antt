-- Edits that fit: another cost, and a row or a column that was added taken out again.
use Rattle.std.specs.Prelude.{◌≡◌, ℕ, ◌<◌, List, [], ◌∷◌, ◌++◌, length, map, get_or, true, Contains, pos, Some, None}
use Rattle.std.proofs.Common.{refl, sym, subst, ◌∙◌, arith}
use Rattle.std.proofs.lemmas.List.{length-map, get_or_default}
use Rattle.frac128.specs.Rational.{ℚ, int}
use Rattle.lp_model.specs.Program.{Program}
use Rattle.lp_model.specs.Lawful.{AreWithinLimits, IsLawful, column_names, column_name}
use Rattle.lp_model.specs.Edits.{Named, entries_beside, only_row_names, col_place, edited, EditFits}
use Rattle.lp_model.specs.declared.types.Row.{Row}
use Rattle.lp_model.specs.declared.types.Col.{Col}
use Rattle.lp_model.specs.declared.types.Edit.TheVariants.{SetCost}
use Rattle.lp_model.proofs.ElementLemmas.{of_element-get}
use Rattle.lp_model.proofs.NameLemmas.{get_or-map, contains_first, contains_later}
use Rattle.lp_model.proofs.ChangedLaws.{length-changed_at, sum_by-changed_at}
use Rattle.inner_models.specs.Inner.{capped}
use Rattle.front_solver.specs.Columns.{whole_column}

abbrev priced : ℚ → Col → Col
priced v c = record c { cost = v }

-- another cost, by the column's name
pub cost_fits : (P : Program) → IsLawful P → (j : ℕ) (c : Col) (v : ℚ) → j < length P.cols → c ≡ get_or P.cols j c → EditFits P (SetCost (column_name P j) v)
cost_fits P lawful j c v below is =
    let name : List ℕ = column_name P j in
    let inside : j < length (column_names P) = rw (length-map P.cols (λ (d : Col). d.name)) below in
    let at : get_or (column_names P) j [] ≡ name = get_or-map (λ (d : Col). d.name) P.cols j c [] below is ∙ sym (of_element-get [] (λ (d : Col). d.name) P.cols j c below is) in
    let k = col_place P name in
    record {
      known = ((j, inside, get_or_default (column_names P) j name [] inside ∙ at), λ i d within. absurd (omega arith));
      free = λ there. let within = there.1 in absurd (omega arith);
      limits =
          subst (λ (T : Type 0). T)
          (sym (λ i. AreWithinLimits P.wide (length P.rows) (length-changed_at (priced v) P.cols k i) (sum_by-changed_at (priced v) (λ (d : Col). length d.rows) (λ d. refl) P.cols k i)))
          lawful.limits;
      bounded = tt;
      range = tt;
    }

-- ---- a row or a column that was added

last_row : (rows : List Row) (r : Row) → Contains (map (λ (s : Row). s.name) (rows ++ r ∷ [])) r.name
last_row [] r = contains_first r.name r.name [] refl
last_row (s ∷ rows) r = contains_later s.name r.name (map (λ (t : Row). t.name) (rows ++ r ∷ [])) (last_row rows r)

last_column : (cols : List Col) (c : Col) → Contains (map (λ (d : Col). d.name) (cols ++ c ∷ [])) c.name
last_column [] c = contains_first c.name c.name [] refl
last_column (d ∷ cols) c = contains_later d.name c.name (map (λ (e : Col). e.name) (cols ++ c ∷ [])) (last_column cols c)

pub row_there : (P A B : Program) (name row : List ℕ) (hi : ℚ) (named : Named) → A ≡ edited P (capped name hi named) → B ≡ A → row ≡ name → Contains (only_row_names B) row
row_there P A B name row hi named added kept same =
    subst (λ (Q : Program). Contains (only_row_names Q) row) (sym (kept ∙ added))
    (subst (Contains (only_row_names (edited P (capped name hi named)))) (sym same) (last_row P.rows (record { name = name; lo = None; hi = Some hi })))

pub column_there : (P A B : Program) (name col : List ℕ) (up : ℚ) → A ≡ edited P (whole_column name up) → B ≡ A → col ≡ name → Contains (column_names B) col
column_there P A B name col up added kept same =
    subst (λ (Q : Program). Contains (column_names Q) col) (sym (kept ∙ added))
    (subst (Contains (column_names (edited P (whole_column name up)))) (sym same) (last_column P.cols (record { name = name; int = true; lo = Some (int (pos 0)); up = Some up; cost = int (pos 1); cost2 = int (pos 0); rows = entries_beside 0 (only_row_names P) [] })))

-- a row that fits has a name that no row has, and a column one that no column has
pub row_free : (P : Program) (name : List ℕ) (hi : ℚ) (named : Named) → EditFits P (capped name hi named) → ¬ Contains (only_row_names P) name
row_free P name hi named fits there = fits.free (contains_later P.obj name (P.obj2 ∷ only_row_names P) (contains_later P.obj2 name (only_row_names P) there))

pub column_free : (P : Program) (name : List ℕ) (up : ℚ) → EditFits P (whole_column name up) → ¬ Contains (column_names P) name
column_free P name up fits there = fits.free there
