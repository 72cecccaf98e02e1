use Rattle.std.proofs.Common.{◌≡◌, ◌++◌, take}
use Rattle.std.specs.Prelude.{filter, nat_lt}
use Rattle.frac128.specs.Rational.{ℚ}
use Rattle.lp_model.specs.declared.types.RowId.{RowId}
use Rattle.model_edits.proofs.removing.push_later.Given as goal

abbrev pub invariant-loop-place : goal.invariant-loop-place
invariant-loop-place l = l.list ≡ l.fn.list ++ filter (λ (e : RowId × ℚ). nat_lt l.row e.0.0) (take l.place-index l.entries)
