-- What an edit of a model touches, and which lists of multipliers name none of it.
--     touched_by M e                            what the edit touches beside cuts, where that is one row or one column at most
--     leaves_cost t j, leaves_column t j        the cost of column j, and all else of it, is not touched
--     leaves_list t cuts others mult            no multiplier is of a row that is touched, nor of a cut that counts in one list alone
use Rattle.std.specs.Prelude.{ℕ, Bool, true, if◌then◌else◌, not, nat_eq, List, length, Option, Some, None}
use Rattle.std.specs.List.{list_all}
use Rattle.frac128.specs.Rational.{ℚ}
use Rattle.lp_model.specs.Program.{Program}
use Rattle.lp_model.specs.Cuts.{is_live}
use Rattle.lp_model.specs.Edits.{col_place, row_place}
use Rattle.lp_model.specs.declared.types.ColId.{ColId}
use Rattle.lp_model.specs.declared.types.CutRow.{CutRow}
use Rattle.lp_model.specs.declared.types.Var.{Var}
use Rattle.lp_model.specs.declared.types.Var.TheVariants.{Col, Row, Cut}
use Rattle.lp_model.specs.declared.types.Edit.{Edit}
use Rattle.lp_model.specs.declared.types.Edit.TheVariants.{SetCost, SetCost2, SetRow, SetColBounds, SetKind, AddCol, AddRow, ReplaceRow}
use Rattle.leaf_dual.specs.Dual.{Multipliers}
use Rattle.spared_leaves.specs.declared.touched.Touched.{Touched}
use Rattle.spared_leaves.specs.declared.touched.Touched.TheVariants.{Nothing, OneRow, RowSides, OneCost, OneColumn}

-- nothing that a number is made of, one row, the sides of one row, the cost of one column, or one column; None where the places of others move
abbrev pub touched_by : Program → Edit → Option Touched
touched_by M (SetCost col v) = Some (OneCost (record { 0 = col_place M col }))
touched_by M (SetCost2 col v) = Some Nothing
touched_by M (SetRow row lo hi) = Some (RowSides (record { 0 = row_place M row }))
touched_by M (SetColBounds col lo up) = Some (OneColumn (record { 0 = col_place M col }))
touched_by M (SetKind col integer) = Some (OneColumn (record { 0 = col_place M col }))
touched_by M (AddCol name integer lo up cost cost2 named) = Some (OneColumn (record { 0 = length M.cols }))
touched_by M (AddRow name lo hi named) = Some (OneRow (record { 0 = length M.rows }))
touched_by M (ReplaceRow row lo hi named) = Some (OneRow (record { 0 = row_place M row }))
touched_by M e = None

-- ---- what is not touched

abbrev pub leaves_row : Touched → ℕ → Bool
leaves_row (OneRow row) i = not (nat_eq row.0 i)
leaves_row (RowSides row) i = not (nat_eq row.0 i)
leaves_row t i = true

-- no coefficient of row i is, but for one in a column that is touched
abbrev pub leaves_entries : Touched → ℕ → Bool
leaves_entries (OneRow row) i = not (nat_eq row.0 i)
leaves_entries t i = true

-- the column whose cost is touched, and the one of which more is
abbrev pub cost_touched : Touched → Option ColId
cost_touched (OneCost col) = Some col
cost_touched (OneColumn col) = Some col
cost_touched t = None

abbrev pub column_touched : Touched → Option ColId
column_touched (OneColumn col) = Some col
column_touched t = None

-- place j is not that of the column
abbrev pub is_apart : Option ColId → ℕ → Bool
is_apart None j = true
is_apart (Some col) j = not (nat_eq col.0 j)

abbrev pub leaves_cost : Touched → ℕ → Bool
leaves_cost t j = is_apart (cost_touched t) j

abbrev pub leaves_column : Touched → ℕ → Bool
leaves_column t j = is_apart (column_touched t) j

-- the cut counts in both lists or in neither
abbrev pub leaves_cut : List CutRow → List CutRow → ℕ → Bool
leaves_cut cuts others k = if is_live cuts k then is_live others k else not (is_live others k)

abbrev pub leaves_variable : Touched → List CutRow → List CutRow → Var → Bool
leaves_variable t cuts others (Col col) = true
leaves_variable t cuts others (Row row) = leaves_row t row.0
leaves_variable t cuts others (Cut cut) = leaves_cut cuts others cut.0

abbrev pub leaves_list : Touched → List CutRow → List CutRow → Multipliers → Bool
leaves_list t cuts others mult = list_all (λ (m : Var × ℚ). leaves_variable t cuts others m.0) mult
