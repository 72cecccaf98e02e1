-- What contracts of private functions alone cite, beside specs/Rounds.
use Rattle.std.specs.Prelude.{◌≡◌, ℕ, ◌-◌, ◌<◌, Bool, true, false, length}
use Rattle.lp_model.specs.Program.{Point}
use Rattle.lp_model.specs.declared.types.Basis.{Basis}
use Rattle.basic_solution.specs.Held.{Held}
use Rattle.basic_solution.specs.Lists.{IsBasisOf}
use Rattle.dual_simplex.specs.Answers.{HasLeaving}
use Rattle.dual_simplex.specs.Solves.{IsLpOptimum}
use Rattle.node_solve.specs.Works.{IsAllowedBy, IsRunWide}
use Rattle.node_solve.specs.Places.{with_cut_variables}
use Rattle.lp_model.specs.declared.types.WideStep.{WideStep}
use Rattle.dual_simplex.specs.Solves.{IsLpInfeasible}
use Rattle.node_solve.specs.declared.rounds.Solved.{Solved}
use Rattle.node_solve.specs.declared.rounds.Solved.TheVariants as solved
use Rattle.node_solve.specs.declared.working.Worked.TheVariants.{Pivots, Wide, Memory}
use Rattle.node_solve.specs.Rounds.{Work, Round, first_in, form_in, RunsTo, AddsCovers, MayGoOn, IsLastAt}

-- whether a further round is made at an optimum with this basis, and the round then
abbrev pub IsNextAnswer : Work → ℕ → Round → Point → Basis → Bool → Round → Type 0
IsNextAnswer W made r x basis true next =
    MayGoOn W made r x × ((after : Round) × (AddsCovers W r x after × ((length r.cuts < length after.cuts) × (next ≡ record after { list = with_cut_variables basis (length r.cuts) (length after.cuts - length r.cuts) }))))
IsNextAnswer W made r x basis false next = (next ≡ r) × IsLastAt W made r x

-- moves within the limit lead to the state, and P holds there
pub record EndsAt (W : Work) (r : Round) (P : ℕ → Held → Type 0) : Type 0 where
  pub moves : ℕ
  pub state : Held
  pub run : RunsTo W r moves state
  pub holds : P moves state

-- the method stops at a step without room, before the end of the run
abbrev pub IsMethodWide : Work → Round → Basis → WideStep → Type 0
IsMethodWide W r basis step = IsRunWide (form_in W r) W.job.region r.list (first_in W r) W.pivots (λ s. ⊥) basis step

-- what the relaxation of the round comes to
abbrev pub IsSolvedIn : Work → Round → Solved → Type 0
IsSolvedIn W r (solved.Optimal point mult basis) = EndsAt W r (λ n s. IsAllowedBy W.pivots n s × (IsLpOptimum s point mult × IsBasisOf s basis))
IsSolvedIn W r (solved.Infeasible farkas mult basis) = EndsAt W r (λ n s. IsAllowedBy W.pivots n s × (IsLpInfeasible s farkas mult × IsBasisOf s basis))
IsSolvedIn W r (solved.Pivots basis) = EndsAt W r (λ n s. (n ≡ W.pivots) × (HasLeaving s × IsBasisOf s basis))
IsSolvedIn W r (solved.Wide step basis) = IsMethodWide W r basis step
IsSolvedIn W r solved.Memory = Unit {0}
