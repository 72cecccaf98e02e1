use Rattle.std.proofs.Common.{◌≡◌, ◌<◌, ◌+◌, ◌≤◌, length, drop, ap, sym, ◌∙◌, arith}
use Rattle.std.specs.Prelude.{Option}
use Rattle.std.proofs.lemmas.List.{drop_all}
use Rattle.frac128.specs.Rational.{ℚ}
use Rattle.leaf_judging.specs.Choosing.{finite_number}
use Rattle.dual_bounds.specs.TreeBounds.{least_of_two, least_of_numbers}
use Rattle.dual_bounds.proofs.NumberLists.{least-here, least-none, least-assoc}
use Rattle.dual_bounds.proofs.numbers.least_of_numbers.Goals as goal

pub loop-number-preserved : goal.loop-number-preserved
loop-number-preserved c =
    let numbers = c.args.numbers.now in
    let i = c.loop-number.number-index in
    let n = c.number-item.result in
    let least = c.loop-number.least in
    let small : i < length numbers = omega (arith, c.loop-number-test.true) in
    let rest = least_of_numbers (drop (i + 1) numbers) in
    let next : c.least_of_two-least.result ≡ least_of_two least (finite_number n) = c.least_of_two-least.ensures ∙ ap (λ (o : Option ℚ). least_of_two least o) c.finite_number.ensures in
    c.loop-number.invariant
    ∙ ap (least_of_two least) (least-here numbers i n small c.number-item.is)
    ∙ sym (least-assoc least (finite_number n) rest)
    ∙ ap (λ (o : Option ℚ). least_of_two o rest) (sym next)

pub returns : goal.returns
returns c =
    let numbers = c.args.numbers.now in
    let i = c.loop-number.number-index in
    let least = c.loop-number.least in
    let end : length numbers ≤ i = omega (arith, c.loop-number-test.false) in
    sym (c.loop-number.invariant ∙ ap (λ l. least_of_two least (least_of_numbers l)) (drop_all i numbers end) ∙ least-none least)
