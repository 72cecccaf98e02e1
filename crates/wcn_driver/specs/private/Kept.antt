-- What is kept of a solver through a part.
use Rattle.std.specs.Prelude.{ℕ}
use Rattle.lp_model.specs.Program.{Program}
use Rattle.search_answers.specs.declared.answers.Answer.{Answer}
use Rattle.front_solver.specs.Stops.{AddsNoStop}
use Rattle.front_solver.specs.Solved.{IsRecosted}
use Rattle.wcn_driver.specs.declared.settling.Halt.{Halt}
use Rattle.wcn_driver.specs.declared.settling.Halt.TheVariants.{Stopped, Wide, Memory}

-- the solver's model is N with some costs in objective 1, and it may stop no more than before
pub record Stays (N P : Program) (new old : Program → ℕ → Answer → Type 0) : Type 0 where
  pub recosted : IsRecosted N P
  pub steady : AddsNoStop new old

abbrev pub UnlessMemory : Type 0 → Halt → Type 0
UnlessMemory T (Stopped why results bound best) = T
UnlessMemory T (Wide at) = T
UnlessMemory T Memory = Unit {0}
