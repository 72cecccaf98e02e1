-- Rays of a model, along which its points go on without end and improve; models whose objective has no end; and what the
-- test of a direction answers.
--     IsRay M d           the direction d is 0 on integer columns, no side and no bound is ever passed along it, and its cost is below 0
--     IsUnbounded M       there is a feasible point, and below each whole number there is one
--     without_costs M     the model with costs 0 in objective 1
--     IsRayJudged M d r   columns, then rows, then the cost: the first breach or step without room decides
-- (A. Schrijver, Theory of Linear and Integer Programming, 1986, 8.2, for the directions of a polyhedron.)
use Rattle.std.specs.Prelude.{◌≡◌, ◌≢◌, ◌⊎◌, ℕ, ◌<◌, ℤ, Bool, true, false, IsTrue, map, length, pos, Option, None, Result, Ok, Err}
use Rattle.frac128.specs.Rational.{ℚ, int, ◌*ℚ◌, ◌≤ℚ◌, ◌<ℚ◌}
use Rattle.frac128.specs.Sums.{sum_below}
use Rattle.checked_sum.specs.Steps.{AllFit, IsFirstWide}
use Rattle.lp_model.specs.Program.{Program, Point, coordinate, cost, coefficient, lower, upper, is_integer, low_side, high_side, activity, in_least_form, least_value, IsFeasible}
use Rattle.lp_model.specs.declared.types.Col.{Col}
use Rattle.lp_model.specs.declared.types.WideStep.{WideStep}
use Rattle.model_points.specs.Answers.{RowFits, value_step, activity_step}

-- ---- rays

-- at least 0 where there is a low side, and at most 0 where there is a high one
pub record GoesOn (low high : Option ℚ) (x : ℚ) : Type 0 where
  pub above : low ≢ None → int (pos 0) ≤ℚ x
  pub below : high ≢ None → x ≤ℚ int (pos 0)

pub record ColumnGoesOn (M : Program) (d : Point) (j : ℕ) : Type 0 where
  pub integer : IsTrue (is_integer M j) → coordinate d j ≡ int (pos 0)
  pub bounds : GoesOn (lower M j) (upper M j) (coordinate d j)

abbrev pub ColumnsGoOn : Program → Point → Type 0
ColumnsGoOn M d = (j : ℕ) → j < length M.cols → ColumnGoesOn M d j

abbrev pub RowGoesOn : Program → Point → ℕ → Type 0
RowGoesOn M d i = GoesOn (low_side M i) (high_side M i) (activity M d i)

-- what objective 1 gains by the direction, in least form and without the constant
abbrev pub direction_cost : Program → Point → ℚ
direction_cost M d = in_least_form M.sense (sum_below (length M.cols) (λ j. cost M 1 j *ℚ coordinate d j))

pub record IsRay (M : Program) (d : Point) : Type 0 where
  pub shape : length d ≡ length M.cols
  pub columns : (j : ℕ) → j < length M.cols → ColumnGoesOn M d j
  pub rows : (i : ℕ) → i < length M.rows → RowGoesOn M d i
  pub improves : direction_cost M d <ℚ int (pos 0)

-- ---- objectives without end

pub record IsUnbounded (M : Program) : Type 0 where
  pub point : (x : Point) × IsFeasible M x
  pub below : (k : ℤ) → (x : Point) × (IsFeasible M x × (least_value M 1 x <ℚ int k))

abbrev pub without_cost : Col → Col
without_cost c = record c { cost = int (pos 0) }

-- constants and objective 2 stay
abbrev pub without_costs : Program → Program
without_costs M = record M { cols = map without_cost M.cols }

-- ---- the cost of a direction, with its steps

abbrev pub DirectionCostFits : Program → Point → Type 0
DirectionCostFits M d = AllFit (int (pos 0)) (λ j. cost M 1 j) (λ j. coordinate d j) (length M.cols)

-- the step is the first of the cost's that has no room
abbrev pub IsFirstWideCost : Program → Point → WideStep → Type 0
IsFirstWideCost M d step = (k : ℕ) × (IsFirstWide (int (pos 0)) (λ j. cost M 1 j) (λ j. coordinate d j) (length M.cols) k × (step ≡ value_step k))

abbrev pub IsDirectionCostAnswer : Program → Point → Result ℚ WideStep → Type 0
IsDirectionCostAnswer M d (Ok v) = DirectionCostFits M d × (v ≡ direction_cost M d)
IsDirectionCostAnswer M d (Err step) = IsFirstWideCost M d step

-- ---- the test of a direction

-- row i has room for each of its steps, and goes on
pub record RowIsKept (M : Program) (d : Point) (i : ℕ) : Type 0 where
  pub fits : RowFits M d i
  pub goes_on : RowGoesOn M d i

abbrev pub RowsAreKept : Program → Point → ℕ → Type 0
RowsAreKept M d n = (i : ℕ) → i < n → RowIsKept M d i

-- row i is the first that is not kept, and it has room for its steps but is passed at last
pub record IsFirstPassed (M : Program) (d : Point) (i : ℕ) : Type 0 where
  pub within : i < length M.rows
  pub before : RowsAreKept M d i
  pub fits : RowFits M d i
  pub passed : ¬ RowGoesOn M d i

-- the step is the first of the rows' sums that has no room, earlier rows being kept
pub record IsFirstWideSum (M : Program) (d : Point) (step : WideStep) : Type 0 where
  pub row : ℕ
  pub col : ℕ
  pub within : row < length M.rows
  pub before : RowsAreKept M d row
  pub here : IsFirstWide (int (pos 0)) (λ j. coefficient M row j) (λ j. coordinate d j) (length M.cols) col
  pub is : step ≡ activity_step row col

-- each column and each row is kept
pub record IsKeptAlong (M : Program) (d : Point) : Type 0 where
  pub columns : ColumnsGoOn M d
  pub rows : RowsAreKept M d (length M.rows)

-- a column is passed; or a row is; or nothing is, and the cost is not below 0
abbrev pub IsFirstAgainst : Program → Point → Type 0
IsFirstAgainst M d =
    (¬ ColumnsGoOn M d)
    ⊎ ((ColumnsGoOn M d × ((i : ℕ) × IsFirstPassed M d i))
    ⊎ (IsKeptAlong M d × (DirectionCostFits M d × (¬ (direction_cost M d <ℚ int (pos 0))))))

abbrev pub IsRayJudged : Program → Point → Result Bool WideStep → Type 0
IsRayJudged M d (Ok true) = IsRay M d × (RowsAreKept M d (length M.rows) × DirectionCostFits M d)
IsRayJudged M d (Ok false) = (length d ≢ length M.cols) ⊎ ((length d ≡ length M.cols) × IsFirstAgainst M d)
IsRayJudged M d (Err step) = (length d ≡ length M.cols) × ((ColumnsGoOn M d × IsFirstWideSum M d step) ⊎ (IsKeptAlong M d × IsFirstWideCost M d step))
