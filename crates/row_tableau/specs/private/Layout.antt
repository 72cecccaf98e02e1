-- What contracts of private functions alone cite, beside specs/Layout.
use Rattle.std.specs.Prelude.{◌≡◌, ℕ, ◌+◌, ◌*◌, ◌/◌, ◌%◌, ◌<◌, List, get_or, length, ℤ, pos}
use Rattle.frac128.specs.Rational.{ℚ, int}
use Rattle.lp_model.specs.Program.{Program, coefficient}
use Rattle.lp_model.specs.Formulations.{Formulation}
use Rattle.table_entries.specs.WholeSteps.{AreShort}
use Rattle.table_entries.specs.Listed.{over}
use Rattle.row_tableau.specs.Activities.{activity_count, activity_coefficient}

-- the entries of the slack table, activity by activity: the coefficients
pub record IsSlackList (F : Formulation) (list : List ℚ) : Type 0 where
  pub size : length list ≡ activity_count F * length F.model.cols
  pub items : (at : ℕ) → at < activity_count F * length F.model.cols → get_or list at (int (pos 0)) ≡ activity_coefficient F (at / length F.model.cols) (at % length F.model.cols)

-- the coefficients of the model's rows as numbers, and zeros behind them for further activities, row by row
pub record AreRowNumbers (M : Program) (activities : ℕ) (numbers : List ℤ) : Type 0 where
  pub size : length numbers ≡ activities * length M.cols
  pub items : (i k : ℕ) → i < activities → k < length M.cols → get_or (over (pos 1) numbers) (i * length M.cols + k) (int (pos 0)) ≡ coefficient M i k
  pub short : AreShort numbers

-- the coefficients of all activities as numbers
pub record AreSlackNumbers (F : Formulation) (numbers : List ℤ) : Type 0 where
  pub list : IsSlackList F (over (pos 1) numbers)
  pub short : AreShort numbers
