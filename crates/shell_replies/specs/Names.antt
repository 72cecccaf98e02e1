-- Which rows or columns the names of a line are, and what is wrong with a line of names.
use Rattle.std.specs.Prelude.{◌≡◌, ℕ, ◌<◌, List, map, length, get_or, take, All, Contains}
use Rattle.frac128.specs.Rational.{ℚ}
use Rattle.lp_model.specs.Edits.{Named, place_in, row_place, only_row_names}
use Rattle.lp_model.specs.Lawful.{column_names}
use Rattle.lp_model.specs.Program.{Program, low_side, high_side}
use Rattle.lp_model.specs.declared.types.RowId.{RowId}
use Rattle.lp_model.specs.declared.types.ColId.{ColId}
use Rattle.dual_bounds.specs.NewNumbers.{HasEqualSides}
use Rattle.dual_bounds.specs.declared.new_numbers.OtherNumbers.{OtherNumbers}
use Rattle.dual_bounds.specs.declared.new_numbers.OtherNumbers.TheVariants as other
use Rattle.command_words.specs.declared.words.NewNumbers.{NewNumbers}
use Rattle.command_words.specs.declared.words.NewNumbers.TheVariants.{Sides, Costs}
use Rattle.edit_words.specs.EditWords.{names_in}

-- the place of each name among these, as a row's or a column's, with its number
abbrev pub placed_in : {P : Type 0} → (ℕ → P) → List (List ℕ) → Named → List (P × ℚ)
placed_in place names named = map (λ e. (place (place_in names e.0), e.1)) named

abbrev pub row_id_at : ℕ → RowId
row_id_at k = record { 0 = k }

abbrev pub col_id_at : ℕ → ColId
col_id_at k = record { 0 = k }

abbrev pub placed_rows : Program → Named → List (RowId × ℚ)
placed_rows M named = placed_in row_id_at (only_row_names M) named

abbrev pub placed_cols : Program → Named → List (ColId × ℚ)
placed_cols M named = placed_in col_id_at (column_names M) named

-- the numbers beside the names: for the sides of rows, or as costs of columns
abbrev pub placed_numbers : NewNumbers → Program → Named → OtherNumbers
placed_numbers Sides M named = other.Sides (placed_rows M named)
placed_numbers Costs M named = other.Costs (placed_cols M named)

-- ---- what is wrong with a line

-- the names that may stand: those of rows, of which an objective is none, or of columns
abbrev pub names_for : NewNumbers → Program → List (List ℕ)
names_for Sides M = only_row_names M
names_for Costs M = column_names M

abbrev pub AreThere : NewNumbers → Program → Named → Type 0
AreThere numbers M named = All (Contains (names_for numbers M)) (names_in named)

-- the row of the name has one side, or two equal ones
abbrev pub HasOneNumber : Program → List ℕ → Type 0
HasOneNumber M row = HasEqualSides (low_side M (row_place M row)) (high_side M (row_place M row))

-- the first of the names whose row has two sides that differ
pub record IsFirstTwoSided (M : Program) (names : List (List ℕ)) (name : List ℕ) : Type 0 where
  pub place : ℕ
  pub within : place < length names
  pub is : name ≡ get_or names place name
  pub before : All (HasOneNumber M) (take place names)
  pub differ : ¬ HasOneNumber M name

-- each row that is named has such sides; of costs nothing is asked
abbrev pub HaveOneNumber : NewNumbers → Program → Named → Type 0
HaveOneNumber Sides M named = All (HasOneNumber M) (names_in named)
HaveOneNumber Costs M named = Unit {0}
