use Rattle.std.proofs.Common.{◌<◌, ◌≤◌, length, ap, sym, ◌∙◌, arith}
use Rattle.std.specs.Prelude.{Some, None}
use Rattle.std.proofs.lemmas.List.{drop_all}
use Rattle.dual_bounds.specs.TreeBounds.{deciding_bound}
use Rattle.dual_bounds.proofs.NumberLists.{decided-next}
use Rattle.dual_bounds.proofs.numbers.deciding_bound.Goals as goal

pub returns-in-Some : goal.returns-in-Some
returns-in-Some c =
    let numbers = c.args.numbers.now in
    let place = c.loop-place.place in
    let small : place < length numbers = omega (arith, c.loop-place-test.true) in
    sym (c.loop-place.invariant ∙ decided-next numbers place c.index-numbers-place.result small c.index-numbers-place.is (Some c.in-Some.bound) c.in-Some.ensures)

pub loop-place-preserved : goal.loop-place-preserved
loop-place-preserved c =
    let numbers = c.args.numbers.now in
    let place = c.loop-place.place in
    let small : place < length numbers = omega (arith, c.loop-place-test.true) in
    c.loop-place.invariant ∙ decided-next numbers place c.index-numbers-place.result small c.index-numbers-place.is None c.in_default.ensures

pub returns : goal.returns
returns c =
    let numbers = c.args.numbers.now in
    let place = c.loop-place.place in
    let end : length numbers ≤ place = omega (arith, c.loop-place-test.false) in
    sym (c.loop-place.invariant ∙ ap (deciding_bound place) (drop_all place numbers end))
