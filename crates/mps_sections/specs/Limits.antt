-- What the lines of a text without fault keep: few rows, columns and coefficients, names that differ, also those of the rows
-- of type N, and no row of type N that has sides.
use Rattle.std.specs.Prelude.{◌≡◌, ◌≢◌, ℕ, ◌≤◌, true, false, List, length, map, sum_by, AllPairs}
use Rattle.lp_model.specs.Limits.{row_limit, col_limit, entry_limit}
use Rattle.mps_fields.specs.Words.{among}
use Rattle.mps_sections.specs.Statements.{is_row_name, coefficients_in, stated_row_names}
use Rattle.mps_sections.specs.declared.statements.Sections.{Sections}
use Rattle.mps_sections.specs.declared.statements.RowLine.{RowLine}
use Rattle.mps_sections.specs.declared.statements.ColumnLines.{ColumnLines}

-- no two of the names are one
abbrev pub AreNamesApart : List (List ℕ) → Type 0
AreNamesApart names = AllPairs (λ a b. a ≢ b) names

abbrev pub names_of_columns : List ColumnLines → List (List ℕ)
names_of_columns found = map (λ c. c.name) found

-- an objective is no row
abbrev pub IsNoRow : List (List ℕ) → List RowLine → Type 0
IsNoRow objectives sided = (name : List ℕ) → among objectives name ≡ true → is_row_name sided name ≡ false

-- how many non-zero numbers of the columns stand beside rows with sides
abbrev pub coefficient_count : List RowLine → List ColumnLines → ℕ
coefficient_count sided found = sum_by (λ c. length (coefficients_in sided c.numbers)) found

pub record StatesWithinLimits (s : Sections) : Type 0 where
  pub few_rows : length s.rows ≤ row_limit false
  pub few_columns : length s.columns ≤ col_limit false
  pub few_coefficients : coefficient_count s.rows s.columns ≤ entry_limit false
  pub rows_apart : AreNamesApart (stated_row_names s.rows)
  pub columns_apart : AreNamesApart (names_of_columns s.columns)
  pub objectives_differ : AreNamesApart s.objectives
  pub objectives_apart : IsNoRow s.objectives s.rows
