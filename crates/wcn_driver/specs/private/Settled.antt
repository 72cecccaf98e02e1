-- What an inner model is solved to, and why a sweep ends at a part.
use Rattle.std.specs.Prelude.{◌≡◌, ℕ, ◌+◌, ◌<◌, ◌≤◌, ◌^◌, ℤ, true, Option, Some, IsSome, Result, Ok, Err}
use Rattle.lp_model.specs.Program.{Program, value, IsOptimum}
use Rattle.search_answers.specs.declared.answers.Answer.{Answer}
use Rattle.search_answers.specs.declared.answers.Answer.TheVariants as solve
use Rattle.model_points.specs.Answers.{IsFeasibilityAnswer}
use Rattle.model_points.specs.Bounds.{IsBound, IsFoundValue}
use Rattle.cert_text.specs.declared.cert.Claim.TheVariants.{Optimal}
use Rattle.cert_text.specs.declared.cert.Cert.{Cert}
use Rattle.front_solver.specs.declared.solved.Solved.{Solved}
use Rattle.front_solver.specs.Truth.{IsCertifiedAs}
use Rattle.wcn_driver.specs.declared.answers.Part.{Part}
use Rattle.wcn_driver.specs.declared.settling.Optimum.{Optimum}
use Rattle.wcn_driver.specs.declared.settling.Halt.{Halt}
use Rattle.wcn_driver.specs.declared.settling.Halt.TheVariants.{Stopped, Wide, Memory}
use Rattle.wcn_driver.specs.declared.settling.PartEnd.{PartEnd}
use Rattle.wcn_driver.specs.declared.settling.PartEnd.TheVariants.{Best, Infeasible, Halted}
use Rattle.wcn_driver.specs.Parts.{part_model}
use Rattle.wcn_driver.specs.Answers.{StopsAtPart, IsFirstWideScale}

-- there is an optimum or that no point is feasible, with a certificate, or a stop
abbrev pub CanEnd : Answer → Option Cert → Type 0
CanEnd (solve.Optimal v x n) cert = IsSome cert
CanEnd (solve.Within g v x n) cert = ⊥
CanEnd (solve.Infeasible n) cert = IsSome cert
CanEnd (solve.Unbounded n) cert = ⊥
CanEnd (solve.Stopped why n bound best) cert = Unit {0}
CanEnd solve.Memory cert = Unit {0}

-- there is an optimum with its certificate, or a stop
abbrev pub CanSettle : Answer → Option Cert → Type 0
CanSettle (solve.Optimal v x n) cert = IsSome cert
CanSettle (solve.Within g v x n) cert = ⊥
CanSettle (solve.Infeasible n) cert = ⊥
CanSettle (solve.Unbounded n) cert = ⊥
CanSettle (solve.Stopped why n bound best) cert = Unit {0}
CanSettle solve.Memory cert = Unit {0}

-- the results can be counted beside those before
abbrev pub CountsWithin : ℕ → Answer → Type 0
CountsWithin before (solve.Optimal v x n) = before + n < 2 ^ 64
CountsWithin before (solve.Within g v x n) = before + n < 2 ^ 64
CountsWithin before (solve.Infeasible n) = before + n < 2 ^ 64
CountsWithin before (solve.Unbounded n) = before + n < 2 ^ 64
CountsWithin before (solve.Stopped why n bound best) = before + n < 2 ^ 64
CountsWithin before solve.Memory = Unit {0}

-- an optimum that was answered
pub record IsOptimumOf (before : ℕ) (s : Solved) (o : Optimum) : Type 0 where
  pub here : ℕ
  pub answer : s.answer ≡ solve.Optimal o.value o.point here
  pub cert : s.cert ≡ Some o.cert
  pub results : o.results ≡ before + here

-- an optimum of the part's model, whose point was judged feasible, with a certificate of its value
pub record IsPartOptimum (P : Program) (nodes : ℕ) (o : Optimum) : Type 0 where
  pub optimum : IsOptimum P o.point
  pub value_is : o.value ≡ value P 1 o.point
  pub judged : IsFeasibilityAnswer P o.point (Ok true)
  pub certified : IsCertifiedAs P (Some (Optimal o.value)) o.cert
  pub within : o.results ≤ nodes

abbrev pub IsHaltOf : ℕ → Solved → Halt → Type 0
IsHaltOf before s (Stopped why results bound best) = (here : ℕ) × ((s.answer ≡ solve.Stopped why here bound best) × (results ≡ before + here))
IsHaltOf before s (Wide at) = ⊥
IsHaltOf before s Memory = Unit {0}

abbrev pub IsPartEnd : ℕ → Solved → PartEnd → Type 0
IsPartEnd before s (Best o) = IsOptimumOf before s o
IsPartEnd before s (Infeasible cert results) = (here : ℕ) × ((s.answer ≡ solve.Infeasible here) × (s.cert ≡ Some cert) × (results ≡ before + here))
IsPartEnd before s (Halted halt) = IsHaltOf before s halt

abbrev pub IsSettled : ℕ → Solved → Result Optimum Halt → Type 0
IsSettled before s (Ok o) = IsOptimumOf before s o
IsSettled before s (Err halt) = IsHaltOf before s halt

-- ---- why a sweep ends at a part

-- the solver may stop so at the part's model, with what the bound and the best value say of it; or the place is its first without room
abbrev pub IsHalt : (Program → ℕ → Answer → Type 0) → Program → ℕ → ℤ → ℤ → ℤ → ℤ → Part → Halt → Type 0
IsHalt stops N nodes c d i1 i2 part (Stopped why results bound best) =
    StopsAtPart stops (part_model N i1 i2 part) nodes results (λ here. solve.Stopped why here bound best)
    × (IsBound (part_model N i1 i2 part) bound × IsFoundValue (part_model N i1 i2 part) best)
IsHalt stops N nodes c d i1 i2 part (Wide at) = IsFirstWideScale N c d i1 i2 part at
IsHalt stops N nodes c d i1 i2 part Memory = Unit {0}
