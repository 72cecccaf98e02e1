-- What a contract sees of a state: a relaxation, the parts of its costs, a table, and where the nonbasic variables stand.
use Rattle.std.specs.Prelude.{◌≡◌, ℕ, zero, suc, ◌+◌, ◌<◌, ltb, ◌==◌, if◌then◌else◌, List, length, get_or, pos, Option, None}
use Rattle.frac128.specs.Rational.{ℚ, int}
use Rattle.lp_model.specs.Formulations.{Formulation}
use Rattle.row_tableau.specs.Activities.{activity_coefficient}
use Rattle.table_entries.specs.Relaxation.{Relaxation, Table}
use Rattle.table_entries.specs.declared.stand.Stand.{Stand}
use Rattle.table_entries.specs.declared.stand.Stand.TheVariants.{Free}
use Rattle.table_entries.specs.States.{State, sign, Separates, IsGood}
use Rattle.table_entries.specs.Directions.{stand_number}
use Rattle.table_entries.specs.Bases.{IsTableOf}
use Rattle.row_tableau.specs.Dense.{Dense, table_of}

-- sides, costs and tilts by variable, and the variables that have a tilt in the order of the parts
pub record Held : Type 0 where
  pub form : Formulation
  pub low : List (Option ℚ)
  pub high : List (Option ℚ)
  pub cost : List ℚ
  pub tilt : List Stand
  pub order : List ℕ
  pub tableau : Dense
  pub stands : List Stand

abbrev pub table : Held → Table
table s = table_of s.tableau

-- how many variables there are
abbrev pub variables : Held → ℕ
variables s = s.tableau.columns + s.tableau.activities

-- the coefficients of rows and cuts, with the sides and the costs
abbrev pub relaxation : Held → Relaxation
relaxation s = record {
  columns = s.tableau.columns;
  activities = s.tableau.activities;
  coefficient = activity_coefficient s.form;
  low = λ v. get_or s.low v None;
  high = λ v. get_or s.high v None;
  cost = λ v. get_or s.cost v (int (pos 0));
}

-- a cost of one variable alone, the sign of its tilt
abbrev pub own_cost : Held → ℕ → ℕ → ℚ
own_cost s own v = if v == own then sign (get_or s.tilt own Free) else int (pos 0)

-- the costs, and then for each variable in this order a part in which it alone has a cost
abbrev pub parts : Held → ℕ → ℕ → ℚ
parts s zero v = get_or s.cost v (int (pos 0))
parts s (suc q) v = if ltb q (length s.order) then own_cost s (get_or s.order q 0) v else int (pos 0)

-- the variables at their sides
abbrev pub state : Held → State
state s = record {
  table = table s;
  stand = λ k. get_or s.stands k Free;
  at = λ k. stand_number (get_or s.stands k Free) (get_or s.low ((table s).nonbasic k) None) (get_or s.high ((table s).nonbasic k) None);
}

-- the lengths of the lists: by variable, and by place
pub record HasShape (s : Held) : Type 0 where
  pub low_length : length s.low ≡ variables s
  pub high_length : length s.high ≡ variables s
  pub cost_length : length s.cost ≡ variables s
  pub tilt_length : length s.tilt ≡ variables s
  pub order_there : (q : ℕ) → q < length s.order → get_or s.order q 0 < variables s
  pub stands_length : length s.stands ≡ s.tableau.columns

-- the table of a basis of the relaxation, whose variables the costs separate
pub record IsSided (s : Held) : Type 0 where
  pub shape : HasShape s
  pub separates : Separates (relaxation s) (parts s)
  pub table : IsTableOf (relaxation s) (table s)

-- a lawful state of a relaxation whose variables the costs separate
pub record IsLawfulHeld (s : Held) : Type 0 where
  pub shape : HasShape s
  pub separates : Separates (relaxation s) (parts s)
  pub good : IsGood (relaxation s) (parts s) (state s)
