use Rattle.std.specs.Int.{w128}
use Rattle.std.proofs.Common.{◌≡◌, ◌-ℤ◌, subst}
use Rattle.std.proofs.lemmas.Int.{to_z-of_z}
use Rattle.frac128.specs.Rational.{int}
use Rattle.frac128.specs.Range.{IsNarrow}
use Rattle.gap_models.proofs.GapNumbers.{narrow_again, product_fits, product_wide}
use Rattle.gap_models.proofs.gaps.weights_between.Goals as goal

pub difference-requires-clause-left : goal.difference-requires-clause-left
difference-requires-clause-left c = narrow_again c.args.p2 c.requires.p2

pub difference-requires-clause-right : goal.difference-requires-clause-right
difference-requires-clause-right c = narrow_again c.args.i2 c.requires.i2

pub difference-requires-2-clause-left : goal.difference-requires-2-clause-left
difference-requires-2-clause-left c = narrow_again c.args.q1 c.requires.q1

pub difference-requires-2-clause-right : goal.difference-requires-2-clause-right
difference-requires-2-clause-right c = narrow_again c.args.i1 c.requires.i1

pub returns-in_default : goal.returns-in_default
returns-in_default c = λ has.
    let p2 = to_z-of_z w128 c.args.p2 c.ranges.p2 in
    let i2 = to_z-of_z w128 c.args.i2 c.ranges.i2 in
    subst (λ t. ¬ IsNarrow t) (λ i. p2 i -ℤ i2 i) c.in_default.ensures has.first

pub returns-in_default-difference : goal.returns-in_default-difference
returns-in_default-difference c = λ has.
    let q1 = to_z-of_z w128 c.args.q1 c.ranges.q1 in
    let i1 = to_z-of_z w128 c.args.i1 c.ranges.i1 in
    subst (λ t. ¬ IsNarrow t) (λ i. q1 i -ℤ i1 i) c.in_default-difference.ensures has.second

pub returns-in-Ok : goal.returns-in-Ok
returns-in-Ok c =
    let p2 = to_z-of_z w128 c.args.p2 c.ranges.p2 in
    let q1 = to_z-of_z w128 c.args.q1 c.ranges.q1 in
    let i1 = to_z-of_z w128 c.args.i1 c.ranges.i1 in
    let i2 = to_z-of_z w128 c.args.i2 c.ranges.i2 in
    let first = subst (λ t. IsNarrow t × (c.in-Some.a ≡ int t)) (λ i. p2 i -ℤ i2 i) c.in-Some.ensures in
    let second = subst (λ t. IsNarrow t × (c.in-Some-difference.b ≡ int t)) (λ i. q1 i -ℤ i1 i) c.in-Some-difference.ensures in
    let width = product_fits (c.args.p2 -ℤ c.args.i2) (c.args.q1 -ℤ c.args.i1) c.in-Some.a c.in-Some-difference.b first.1 second.1 c.in-Ok.width c.in-Ok.ensures in
    (record { first = first.0; second = second.0; width = width.0 }, record { first = first.1; second = second.1; width = width.1 })

pub returns-in-Err : goal.returns-in-Err
returns-in-Err c = λ has.
    let p2 = to_z-of_z w128 c.args.p2 c.ranges.p2 in
    let q1 = to_z-of_z w128 c.args.q1 c.ranges.q1 in
    let i1 = to_z-of_z w128 c.args.i1 c.ranges.i1 in
    let i2 = to_z-of_z w128 c.args.i2 c.ranges.i2 in
    let first = subst (λ t. IsNarrow t × (c.in-Some.a ≡ int t)) (λ i. p2 i -ℤ i2 i) c.in-Some.ensures in
    let second = subst (λ t. IsNarrow t × (c.in-Some-difference.b ≡ int t)) (λ i. q1 i -ℤ i1 i) c.in-Some-difference.ensures in
    product_wide (c.args.p2 -ℤ c.args.i2) (c.args.q1 -ℤ c.args.i1) c.in-Some.a c.in-Some-difference.b first.1 second.1 c.in-Err.ensures has.width
