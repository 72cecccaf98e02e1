use Rattle.std.proofs.Common.{◌∙◌, sym, refl}
use Rattle.serde_json.specs.View.{view}
use Rattle.warm_file.specs.Numbers.{side_of, near_of, bound_of}
use Rattle.warm_file.proofs.Saying.{told-first, told-error, says-next, says-then, ok-next, ok-else}
use Rattle.warm_file.proofs.numbers.read_bound.Goals as goal

pub returns-in_err-bound : goal.returns-in_err-bound
unfolding bound_of
returns-in_err-bound c = (told-error _ _ _ c.from_residual.ensures (told-first _ _ _ c.in_err-bound.ensures)).says

pub returns-then-is_far : goal.returns-then-is_far
unfolding bound_of
returns-then-is_far c =
    says-next (side_of (view c.args.value.now)) near_of c.in_ok-bound.bound c.bad.result c.in_ok-bound.ensures (says-then _ _ _ c.bad.result (sym c.is_far.ensures ∙ c.if-is_far.true) c.bad.ensures)

pub returns : goal.returns
unfolding bound_of
returns c = ok-next (side_of (view c.args.value.now)) near_of c.in_ok-bound.bound _ c.in_ok-bound.ensures (ok-else _ _ _ _ (sym c.is_far.ensures ∙ c.if-is_far.false) refl)
