-- What contracts of private functions alone cite, beside specs/Answers.
use Rattle.std.specs.Prelude.{ℕ, List, Ok}
use Rattle.frac128.specs.Rational.{ℚ}
use Rattle.lp_model.specs.Program.{Program, Point}
use Rattle.lp_model.specs.declared.types.Var.{Var}
use Rattle.row_tableau.specs.declared.relax.Relax.{Relax}
use Rattle.basic_solution.specs.Held.{Held, IsLawfulHeld}
use Rattle.basic_solution.specs.Slack.{IsStateOfRelax}
use Rattle.dual_simplex.specs.declared.solve.Lp.{Lp}
use Rattle.dual_simplex.specs.Solves.{IsLpOptimum, IsSolved}
use Rattle.ray_phase.specs.Answers.{AreDirections, IsStart}

-- a state of the directions
pub record IsDirectionsState (M : Program) (s : Held) : Type 0 where
  pub relax : Relax
  pub directions : AreDirections M relax
  pub is : IsStateOfRelax relax s
  pub kept : IsLawfulHeld s

-- an optimum of them, and its point
abbrev pub IsBest : Held → Point → Type 0
IsBest s d = (list : List (Var × ℚ)) × IsLpOptimum s d list

-- a run from the start, of at most so many moves, led to the state with this end
pub record IsRunTo (M : Program) (limit : ℕ) (end : Lp) (after : Held) : Type 0 where
  pub start : Held
  pub start_is : IsStart M start
  pub solved : IsSolved start limit (Ok end) after
  pub relaxation : (relax : Relax) → IsStateOfRelax relax start → IsStateOfRelax relax after
  pub kept : IsLawfulHeld after
