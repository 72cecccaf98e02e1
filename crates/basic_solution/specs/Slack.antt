-- The states of a relaxation, and its slack state.
use Rattle.std.specs.Prelude.{◌≡◌, ℕ, ◌<◌, length, get_or, Option, Some, None, IsSome}
use Rattle.frac128.specs.Rational.{ℚ}
use Rattle.table_entries.specs.declared.stand.Stand.{Stand}
use Rattle.table_entries.specs.declared.stand.Stand.TheVariants.{Low, High, Free}
use Rattle.table_entries.specs.Relaxation.{Agree, slack_table}
use Rattle.table_entries.specs.States.{LawfulAt, reduced_parts}
use Rattle.row_tableau.specs.declared.relax.Relax.{Relax}
use Rattle.row_tableau.specs.Relaxations.{form_of, relaxation_of}
use Rattle.row_tableau.specs.Dense.{IsTableauOf}
use Rattle.basic_solution.specs.Held.{Held, IsLawfulHeld, relaxation, parts, table, variables}
use Rattle.row_tableau.specs.Tilts.{tilt_of, order_of}

-- the tableau is one of the relaxation, and sides, costs, tilts and the order of the parts are the relaxation's
pub record IsStateOfRelax (relax : Relax) (s : Held) : Type 0 where
  pub form : s.form ≡ form_of relax
  pub tableau : IsTableauOf (relaxation_of relax) s.tableau
  pub rows : s.tableau.rows ≡ length relax.model.now.rows
  pub low : (v : ℕ) → v < variables s → (relaxation s).low v ≡ (relaxation_of relax).low v
  pub high : (v : ℕ) → v < variables s → (relaxation s).high v ≡ (relaxation_of relax).high v
  pub cost : (v : ℕ) → v < variables s → (relaxation s).cost v ≡ (relaxation_of relax).cost v
  pub tilt : (v : ℕ) → v < variables s → get_or s.tilt v Free ≡ tilt_of relax.kind (form_of relax) v
  pub order : s.order ≡ order_of relax.kind (form_of relax)

-- and the table is that of the slack basis
pub record IsSlackState (relax : Relax) (s : Held) : Type 0 where
  pub is : IsStateOfRelax relax s
  pub slack : Agree s.tableau.columns s.tableau.activities (table s) (slack_table (relaxation s))

-- the lawful slack state; None: wherever its columns stand, no state at the slack basis is lawful
abbrev pub IsSlackAnswer : Relax → Option Held → Type 0
IsSlackAnswer relax (Some s) = IsSlackState relax s × IsLawfulHeld s
IsSlackAnswer relax None = (s : Held) → IsSlackState relax s → ¬ IsLawfulHeld s

-- ---- the side of a place

-- a variable can stand so: it has that side, or none
abbrev pub CanStand : Stand → Option ℚ → Option ℚ → Type 0
CanStand Low low high = IsSome low
CanStand High low high = IsSome high
CanStand Free low high = (low ≡ None) × (high ≡ None)

-- the variable of the place stands where the first part of its reduced cost that is not 0 asks it to
pub record IsPlaced (s : Held) (k : ℕ) (stand : Stand) : Type 0 where
  pub asked : LawfulAt stand (reduced_parts (relaxation s) (parts s) (table s) k)
  pub can : CanStand stand ((relaxation s).low ((table s).nonbasic k)) ((relaxation s).high ((table s).nonbasic k))
