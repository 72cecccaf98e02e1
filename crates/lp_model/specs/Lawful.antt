-- Which models there are: what every `Model` keeps.
use Rattle.std.specs.Prelude.{◌≡◌, ◌≢◌, ℕ, suc, ◌<◌, ◌≤◌, Bool, IsTrue, List, [], ◌∷◌, length, map, All, AllPairs, sum_by, pos, Option, Some, None, IsSome}
use Rattle.frac128.specs.Rational.{ℚ, int, ◌-ℚ◌, neg_ℚ, ◌≤ℚ◌}
use Rattle.frac128.specs.Range.{SumFits}
use Rattle.lp_model.specs.Program.{Program}
use Rattle.lp_model.specs.Elements.{of_element}
use Rattle.lp_model.specs.Limits.{row_limit, col_limit, entry_limit}
use Rattle.lp_model.specs.declared.types.RowId.{RowId}
use Rattle.lp_model.specs.declared.types.Col.{Col}

-- hi - lo and hi - (hi - lo) have room
pub record AreSubtractable (lo hi : ℚ) : Type 0 where
  pub width : SumFits hi (neg_ℚ lo)
  pub back : SumFits hi (neg_ℚ (hi -ℚ lo))

-- there is a side, and two sides do not cross and are near
abbrev pub IsRange : Option ℚ → Option ℚ → Type 0
IsRange None None = ⊥
IsRange None (Some h) = Unit {0}
IsRange (Some l) None = Unit {0}
IsRange (Some l) (Some h) = (l ≤ℚ h) × AreSubtractable l h

-- the rows of the entries rise, from `from` on and below `to`, and no number is 0
abbrev pub AreEntries : ℕ → ℕ → List (RowId × ℚ) → Type 0
AreEntries from to [] = Unit {0}
AreEntries from to (e ∷ es) = (from ≤ e.0.0) × (e.0.0 < to) × (e.1 ≢ int (pos 0)) × AreEntries (suc e.0.0) to es

-- an integer column has two bounds, and the entries are of the n rows that there are
pub record IsLawfulColumn (n : ℕ) (c : Col) : Type 0 where
  pub bounded : IsTrue c.int → IsSome c.lo × IsSome c.up
  pub entries : AreEntries 0 n c.rows

-- the names of the objectives and the rows
abbrev pub row_names : Program → List (List ℕ)
row_names M = M.obj ∷ M.obj2 ∷ map (λ r. r.name) M.rows

abbrev pub column_names : Program → List (List ℕ)
column_names M = map (λ c. c.name) M.cols

-- the name of row i, and of column j
abbrev pub row_name : Program → ℕ → List ℕ
row_name M i = of_element [] (λ r. r.name) M.rows i

abbrev pub column_name : Program → ℕ → List ℕ
column_name M j = of_element [] (λ c. c.name) M.cols j

abbrev pub entry_count : Program → ℕ
entry_count M = sum_by (λ c. length c.rows) M.cols

pub record AreWithinLimits (wide : Bool) (rows columns entries : ℕ) : Type 0 where
  pub few_rows : rows ≤ row_limit wide
  pub few_columns : columns ≤ col_limit wide
  pub few_entries : entries ≤ entry_limit wide

pub record IsLawful (M : Program) : Type 0 where
  pub constants : length M.consts ≡ 2
  pub ranges : All (λ r. IsRange r.lo r.hi) M.rows
  pub columns : All (IsLawfulColumn (length M.rows)) M.cols
  pub rows_distinct : AllPairs (λ a b. a ≢ b) (row_names M)
  pub columns_distinct : AllPairs (λ a b. a ≢ b) (column_names M)
  pub limits : AreWithinLimits M.wide (length M.rows) (length M.cols) (entry_count M)
