-- Why a sweep ends at an end of the front.
use Rattle.std.specs.Prelude.{ℕ, ℤ, Result, Ok, Err, OnOk, IfErr}
use Rattle.lp_model.specs.Program.{Program, Point, IsOptimum}
use Rattle.search_answers.specs.declared.answers.Answer.{Answer}
use Rattle.inner_models.specs.Inner.{left_model, right_model}
use Rattle.wcn_driver.specs.declared.answers.Part.TheVariants.{Left, Right}
use Rattle.wcn_driver.specs.declared.settling.Halt.{Halt}
use Rattle.wcn_driver.specs.declared.settling.Halt.TheVariants.{Stopped, Wide, Memory}
use Rattle.wcn_driver.specs.private.Settled.{IsHalt}
use Rattle.wcn_driver.specs.private.Kept.{UnlessMemory}
use Rattle.wcn_driver.specs.private.Ends.{IsNotFoundAtPoint}

pub unless_memory : (T : Type 0) → T → (halt : Halt) → UnlessMemory T halt
unless_memory T t (Stopped why results bound best) = t
unless_memory T t (Wide at) = t
unless_memory T t Memory = tt

-- what holds whatever is answered
pub stays_where_ok : {X : Type 0} (r : Result X Halt) (T : Type 0) → T → OnOk r T
stays_where_ok (Ok x) T t = t
stays_where_ok (Err halt) T t = tt

pub stays_where_err : {X : Type 0} (r : Result X Halt) (T : Type 0) → T → IfErr r (UnlessMemory T)
stays_where_err (Ok x) T t = tt
stays_where_err (Err halt) T t = unless_memory T t halt

module _ (stops : Program → ℕ → Answer → Type 0) (N : Program) (nodes : ℕ) (c d i1 i2 : ℤ) where
  -- a number of the part's point has no room
  pub left_halt : (x : Point) → IsOptimum (left_model N i1) x → (halt : Halt) → IsNotFoundAtPoint N c d x halt → IsHalt stops N nodes c d i1 i2 Left halt
  left_halt x optimum (Stopped why results bound best) h = absurd h
  left_halt x optimum (Wide at) h = (h.0, (x, (optimum, h.1)))
  left_halt x optimum Memory h = tt

  pub right_halt : (x : Point) → IsOptimum (right_model N i2) x → (halt : Halt) → IsNotFoundAtPoint N c d x halt → IsHalt stops N nodes c d i1 i2 Right halt
  right_halt x optimum (Stopped why results bound best) h = absurd h
  right_halt x optimum (Wide at) h = (h.0, (x, (optimum, h.1)))
  right_halt x optimum Memory h = tt
