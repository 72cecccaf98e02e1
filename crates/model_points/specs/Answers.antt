-- What the calls on points answer, to the first step without room.
use Rattle.std.specs.Prelude.{◌≡◌, ◌≢◌, ◌⊎◌, ℕ, ◌<◌, Bool, true, false, length, pos, Option, Some, None, Result, Ok, Err}
use Rattle.frac128.specs.Rational.{ℚ, int, IsWhole}
use Rattle.lp_model.specs.Program.{Program, Point, coordinate, constant, cost, is_integer, coefficient, ColumnHolds, RowHolds, IsFeasible, IsWholeCost, HasWholeCosts, HasWholeObjective}
use Rattle.checked_sum.specs.Steps.{AllFit, IsFirstWide, IsCheckedSum}
use Rattle.lp_model.specs.declared.types.ColId.{ColId}
use Rattle.lp_model.specs.declared.types.NotWhole.{NotWhole}
use Rattle.lp_model.specs.declared.types.WideStep.{WideStep}
use Rattle.lp_model.specs.declared.types.WideStep.TheVariants.{Act, Value}

abbrev pub value_step : ℕ → WideStep
value_step j = Value (Some (record { 0 = j }))

abbrev pub activity_step : ℕ → ℕ → WideStep
activity_step i j = Act (record { 0 = i }) (record { 0 = j })

-- the value in objective w, or its first wide step
abbrev pub IsValueAnswer : Program → ℕ → Point → Result ℚ WideStep → Type 0
IsValueAnswer M w x r = IsCheckedSum (constant M w) (λ j. cost M w j) (λ j. coordinate x j) (length M.cols) value_step r

-- the sum of row i, or its first wide step
abbrev pub IsActivityAnswer : Program → Point → ℕ → Result ℚ WideStep → Type 0
IsActivityAnswer M x i r = IsCheckedSum (int (pos 0)) (λ j. coefficient M i j) (λ j. coordinate x j) (length M.cols) (activity_step i) r

abbrev pub ColumnsHold : Program → Point → Type 0
ColumnsHold M x = (j : ℕ) → j < length M.cols → ColumnHolds M x j

abbrev pub RowFits : Program → Point → ℕ → Type 0
RowFits M x i = AllFit (int (pos 0)) (λ j. coefficient M i j) (λ j. coordinate x j) (length M.cols)

-- row i has room for each of its steps, and holds
pub record RowPasses (M : Program) (x : Point) (i : ℕ) : Type 0 where
  pub fits : RowFits M x i
  pub holds : RowHolds M x i

abbrev pub RowsPass : Program → Point → ℕ → Type 0
RowsPass M x n = (i : ℕ) → i < n → RowPasses M x i

-- row i is the first that does not pass, and it has room for its steps but does not hold
pub record IsFirstBreach (M : Program) (x : Point) (i : ℕ) : Type 0 where
  pub within : i < length M.rows
  pub before : RowsPass M x i
  pub fits : RowFits M x i
  pub breach : ¬ RowHolds M x i

-- step k of row i is the first that has no room; each column has a number, and columns and earlier rows hold
pub record IsFirstWideRow (M : Program) (x : Point) (i k : ℕ) : Type 0 where
  pub shape : length x ≡ length M.cols
  pub columns : ColumnsHold M x
  pub within : i < length M.rows
  pub before : RowsPass M x i
  pub here : IsFirstWide (int (pos 0)) (λ j. coefficient M i j) (λ j. coordinate x j) (length M.cols) k

-- a number for each column, the columns, then the rows: the first breach or wide step decides
abbrev pub IsFeasibilityAnswer : Program → Point → Result Bool WideStep → Type 0
IsFeasibilityAnswer M x (Ok true) = IsFeasible M x × RowsPass M x (length M.rows)
IsFeasibilityAnswer M x (Ok false) = (length x ≢ length M.cols) ⊎ ((length x ≡ length M.cols) × ((¬ ColumnsHold M x) ⊎ ((i : ℕ) × IsFirstBreach M x i)))
IsFeasibilityAnswer M x (Err e) = (i : ℕ) × ((k : ℕ) × (IsFirstWideRow M x i k × (e ≡ activity_step i k)))

-- the column is the first whose cost is not whole, or that has a cost and is not integer; None: it is the constant
abbrev pub IsFirstNotWhole : Program → ℕ → Option ColId → Type 0
IsFirstNotWhole M w (Some col) = (col.0 < length M.cols) × HasWholeCosts M w col.0 × (¬ IsWholeCost (is_integer M col.0) (cost M w col.0))
IsFirstNotWhole M w None = HasWholeCosts M w (length M.cols) × (¬ IsWhole (constant M w))

abbrev pub IsWholeAnswer : Program → ℕ → Result (Unit {0}) NotWhole → Type 0
IsWholeAnswer M w (Ok _) = HasWholeObjective M w
IsWholeAnswer M w (Err e) = IsFirstNotWhole M w e.col
