-- The last round, for the calls that make its result.
use Rattle.std.specs.Prelude.{◌≡◌, ℕ, suc, ◌<◌, Option, Some, None}
use Rattle.lp_model.specs.Program.{Point}
use Rattle.lp_model.specs.declared.types.Basis.{Basis}
use Rattle.lp_model.specs.declared.types.WideStep.{WideStep}
use Rattle.leaf_dual.specs.Dual.{Multipliers}
use Rattle.basic_solution.specs.Held.{Held}
use Rattle.basic_solution.specs.Lists.{IsBasisOf}
use Rattle.dual_simplex.specs.Answers.{HasLeaving}
use Rattle.dual_simplex.specs.Solves.{IsLpOptimum, IsLpInfeasible}
use Rattle.node_solve.specs.Works.{IsFound, IsDone, IsAllowedBy, IsWideAtEnd, IsOfLeaf}
use Rattle.node_solve.specs.Rounds.{Work, Round, form_in, EndsRounds, MakesRounds}
use Rattle.node_solve.specs.private.Rounds.{EndsAt, IsMethodWide}
use Rattle.node_solve.specs.private.RoundCode.{round_of, IsKeptRound}
use Rattle.node_solve.specs.declared.rounds.Round.{Round as HeldRound}
use Rattle.node_solve.specs.declared.working.End.{End}
use Rattle.node_solve.specs.declared.working.End.TheVariants as ends
use Rattle.node_solve.specs.declared.working.Own.{Own}
use Rattle.node_solve.specs.declared.working.Own.TheVariants as own
use Rattle.node_solve.specs.declared.working.Worked.{Worked}
use Rattle.node_solve.specs.declared.working.Worked.TheVariants.{Done, Pivots, Wide, Memory}

-- after n moves within the limit the round's run ends at the state: in this optimum, or without a solution
abbrev pub IsOptimumAt : Work → Point → Multipliers → Basis → ℕ → Held → Type 0
IsOptimumAt W x mult basis n s = IsAllowedBy W.pivots n s × (IsLpOptimum s x mult × IsBasisOf s basis)

abbrev pub IsNoneAt : Work → Multipliers → Multipliers → Basis → ℕ → Held → Type 0
IsNoneAt W farkas mult basis n s = IsAllowedBy W.pivots n s × (IsLpInfeasible s farkas mult × IsBasisOf s basis)

-- and the optimum's number is its value
abbrev pub IsFoundIn : Work → Round → Point → Multipliers → Basis → ℕ → Held → Type 0
IsFoundIn W r x mult basis n s = IsAllowedBy W.pivots n s × IsFound (form_in W r) W.job.region s x mult basis

-- what the end of the run comes to, by the names of the relaxation
abbrev pub IsOwnEndAt : Work → Round → Own → ℕ → Held → Type 0
IsOwnEndAt W r (own.Done result) n s = IsAllowedBy W.pivots n s × IsDone (form_in W r) W.job.region W.job.target s result
IsOwnEndAt W r (own.Wide step basis) n s = IsAllowedBy W.pivots n s × (IsWideAtEnd (form_in W r) W.job.region s step × IsBasisOf s basis)

-- rounds led there, and it is the last one
abbrev pub IsLastRound : Work → Round → Own → Type 0
IsLastRound W r came = (made : ℕ) × (MakesRounds W made r × EndsAt W r (λ n s. EndsRounds W made r s × IsOwnEndAt W r came n s))

-- rounds led there, and the run of the last one ends so
abbrev pub IsEnd : Work → HeldRound → End → Type 0
IsEnd W r (ends.Last came) = IsKeptRound W r × IsLastRound W (round_of r) came
IsEnd W r (ends.Pivots basis) = (made : ℕ) × (MakesRounds W made (round_of r) × EndsAt W (round_of r) (λ n s. (n ≡ W.pivots) × (HasLeaving s × IsBasisOf s basis)))
IsEnd W r (ends.Wide step basis) = (made : ℕ) × (MakesRounds W made (round_of r) × IsMethodWide W (round_of r) basis step)
IsEnd W r ends.Memory = Unit {0}

-- a further round follows so many, or the rounds end
abbrev pub IsTurn : Work → ℕ → Option End → HeldRound → Type 0
IsTurn W made (Some e) r = IsEnd W r e
IsTurn W made None r = IsKeptRound W r × (MakesRounds W (suc made) (round_of r) × (made < W.rounds))

-- the stop at this step and basis, with the cuts of the round, or no memory for it
abbrev pub IsOwnStop : Work → Round → WideStep → Basis → Worked → Type 0
IsOwnStop W r step basis (Wide at found) = IsOfLeaf W.job.region r.cuts at × ((at.step ≡ step) × ((at.basis ≡ basis) × (found.items ≡ r.added)))
IsOwnStop W r step basis (Done result found) = ⊥
IsOwnStop W r step basis (Pivots basis' found) = ⊥
IsOwnStop W r step basis Memory = Unit {0}
