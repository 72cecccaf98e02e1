use Rattle.std.proofs.Common.{◌∙◌, arith, below_more, pos}
use Rattle.std.proofs.lemmas.List.{get_or-set_same, get_or-set_other}
use Rattle.leaf_dual.proofs.whole_weights.clear.Goals as goal

pub loop-place-preserved : goal.loop-place-preserved
loop-place-preserved c =
    let numbers = c.loop-place.numbers in
    let at = c.loop-place.place in
    let below = c.loop-place-test.true in
    let size = c.loop-place.auto.numbers in
    below_more _ _
    (λ k h. get_or-set_other numbers at k _ (pos 0) (λ e. omega (arith, e, h)) ∙ c.loop-place.invariant k h)
    (get_or-set_same numbers at _ (pos 0) (omega (arith, below, size)))

pub returns : goal.returns
returns c = λ k h. let past = c.loop-place-test.false in let size = c.loop-place.auto.numbers in c.loop-place.invariant k (omega (arith, h, past, size))
