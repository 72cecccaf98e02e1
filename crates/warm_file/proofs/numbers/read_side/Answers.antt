use Rattle.std.proofs.Common.{◌∙◌, sym, refl}
use Rattle.serde_json.specs.View.{view}
use Rattle.warm_file.specs.Numbers.{number_of, some_of, side_of}
use Rattle.warm_file.proofs.Saying.{told-first, told-else, told-error, ok-next, ok-then, ok-else}
use Rattle.warm_file.proofs.numbers.read_side.Goals as goal

pub returns-then-is_null : goal.returns-then-is_null
unfolding side_of
returns-then-is_null c = ok-then _ _ _ _ (sym c.is_null.ensures ∙ c.if-is_null.true) refl

pub returns-in_err-number : goal.returns-in_err-number
unfolding side_of
returns-in_err-number c = (told-error _ _ _ c.from_residual.ensures (told-else _ _ _ _ (sym c.is_null.ensures ∙ c.if-is_null.false) (told-first _ _ _ c.in_err-number.ensures))).says

pub returns : goal.returns
unfolding side_of
returns c = ok-else _ _ _ _ (sym c.is_null.ensures ∙ c.if-is_null.false) (ok-next (number_of (view c.args.value.now)) some_of c.in_ok-number.number _ c.in_ok-number.ensures refl)
