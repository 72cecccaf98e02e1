-- The slack basis of a model, and bases to fall back to.
use Rattle.std.specs.Prelude.{◌≡◌, ◌↔◌, ◌<◌, ℕ, [], length, Option, Some, None}
use Rattle.lp_model.specs.Formulations.{without_cuts}
use Rattle.table_entries.specs.declared.stand.Stand.TheVariants.{High}
use Rattle.table_entries.specs.Bases.{Lists, IsNamedBy}
use Rattle.table_entries.specs.States.{State, IsGood}
use Rattle.row_tableau.specs.Dense.{Dense}
use Rattle.row_tableau.specs.Variables.{numbers}
use Rattle.row_tableau.specs.Relaxations.{form_of, plain}
use Rattle.lp_model.specs.Program.{Program}
use Rattle.lp_model.specs.declared.types.Basis.{Basis}
use Rattle.row_tableau.specs.declared.relax.Relax.{Relax}
use Rattle.row_tableau.specs.declared.relax.RelaxKind.TheVariants.{Plain}
use Rattle.basic_solution.specs.Held.{Held, IsLawfulHeld}
use Rattle.row_tableau.specs.Tilts.{parts_of, KeepsFree}
use Rattle.basic_solution.specs.Slack.{IsSlackState}
use Rattle.basic_solution.specs.Lists.{IsBasisOf}
use Rattle.basic_solution.specs.ListedStates.{IsLawfulBasis}

-- the model's relaxation without cuts in the whole region
pub record IsRootOf (M : Program) (relax : Relax) : Type 0 where
  pub form : form_of relax ≡ without_cuts M
  pub kind : relax.kind ≡ Plain
  pub region : relax.region.now ≡ []

-- the lists are those of the lawful slack state of the model's relaxation, and lawful in each region that keeps columns free
pub record IsLawfulSlackBasis (M : Program) (basis : Basis) : Type 0 where
  pub root : Relax
  pub root_is : IsRootOf M root
  pub state : Held
  pub slack : IsSlackState root state
  pub kept : IsLawfulHeld state
  pub lists : IsBasisOf state basis
  pub lawful : (relax : Relax) → form_of relax ≡ without_cuts M → relax.kind ≡ Plain → KeepsFree M relax.region.now → IsLawfulBasis relax basis

-- None: no slack state of the model's relaxation is lawful
abbrev pub IsSlackBasisAnswer : Program → Option Basis → Type 0
IsSlackBasisAnswer M (Some basis) = IsLawfulSlackBasis M basis
IsSlackBasisAnswer M None = (root : Relax) (s : Held) → IsRootOf M root → IsSlackState root s → ¬ IsLawfulHeld s

-- ---- bases to fall back to

-- variables of a model without cuts by number
abbrev pub no_entries : Program → Dense
no_entries M = record { columns = length M.cols; rows = length M.rows; activities = length M.rows; variables = []; entries = [] }

-- a lawful state of the model's relaxation in the whole region stands at the lists
pub record IsRootBasis (M : Program) (basis : Basis) : Type 0 where
  pub state : State
  pub good : IsGood (plain (without_cuts M) []) (parts_of Plain (without_cuts M) []) state
  pub named : IsNamedBy (length M.rows) (numbers (no_entries M) basis.basic) state.table
  pub highs : (k : ℕ) → k < length M.cols → Lists (numbers (no_entries M) basis.high) (state.table.nonbasic k) ↔ (state.stand k ≡ High)
