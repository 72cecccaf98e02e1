use Rattle.std.proofs.Common.{◌∙◌, sym, refl}
use Rattle.serde_json.specs.View.{view}
use Rattle.warm_file.specs.Numbers.{number_of, nonzero_of}
use Rattle.warm_file.proofs.Saying.{told-first, told-error, says-next, says-then, ok-next, ok-else}
use Rattle.warm_file.proofs.numbers.NonzeroPartPartFrac.read.Goals as goal

pub returns-in_err-number : goal.returns-in_err-number
unfolding nonzero_of
returns-in_err-number c = (told-error _ _ _ c.from_residual.ensures (told-first _ _ _ c.in_err-number.ensures)).says

pub returns-then-is_zero : goal.returns-then-is_zero
unfolding nonzero_of
returns-then-is_zero c =
    says-next (number_of (view c.args.value.now)) _ c.in_ok-number.number c.bad.result c.in_ok-number.ensures (says-then _ _ _ c.bad.result (sym c.is_zero.ensures.test ∙ c.if-is_zero.true) c.bad.ensures)

pub returns : goal.returns
unfolding nonzero_of
returns c = ok-next (number_of (view c.args.value.now)) _ c.in_ok-number.number _ c.in_ok-number.ensures (ok-else _ _ _ _ (sym c.is_zero.ensures.test ∙ c.if-is_zero.false) refl)
