-- What an exchange makes of a state.
use Rattle.std.specs.Prelude.{◌≡◌, ℕ, set}
use Rattle.table_entries.specs.declared.stand.Stand.{Stand}
use Rattle.table_entries.specs.Relaxation.{Agree, pivoted}
use Rattle.basic_solution.specs.Held.{Held, table}

-- the variable of the row leaves for the side and that of the place enters: all else stays
pub record IsMove (s after : Held) (row : ℕ) (side : Stand) (place : ℕ) : Type 0 where
  pub form : after.form ≡ s.form
  pub low : after.low ≡ s.low
  pub high : after.high ≡ s.high
  pub cost : after.cost ≡ s.cost
  pub tilt : after.tilt ≡ s.tilt
  pub order : after.order ≡ s.order
  pub columns : after.tableau.columns ≡ s.tableau.columns
  pub rows : after.tableau.rows ≡ s.tableau.rows
  pub activities : after.tableau.activities ≡ s.tableau.activities
  pub exchanged : Agree s.tableau.columns s.tableau.activities (table after) (pivoted (table s) row place)
  pub stands : after.stands ≡ set s.stands place side
