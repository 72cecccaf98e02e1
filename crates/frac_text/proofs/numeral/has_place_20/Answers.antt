use Rattle.std.proofs.Common.{◌≡◌, rules, FitsSigned, arith, subst, pos, ◌-ℤ◌, ◌+ℤ◌, ℤ}
use Rattle.std.specs.Prelude.{◌≤ℤ◌, int_le}
use Rattle.std.specs.Bool.{Decides}
use Rattle.std.specs.Int.{w128}
use Rattle.std.proofs.lemmas.Int.{to_z-of_z, ints}
use Rattle.frac128.specs.Range.{with_sign}
use Rattle.frac_text.specs.Spelling.{value_of}
use Rattle.frac_text.proofs.Magnitude.{int_le-decides}
use Rattle.frac_text.proofs.numeral.has_place_20.Goals as goal

pub returns-in-Some : goal.returns-in-Some
returns-in-Some c =
    let value_fits : FitsSigned w128 c.in-Some.value = search rules in
    let value = c.in-Some.ensures.0 in
    let small = c.in-Some.ensures.1 in
    let point = c.from.ensures in
    let dropped = c.from-in-Some.ensures in
    let digits = c.from-in-Some-2.ensures in
    let point_fits : FitsSigned w128 c.from.result = search rules in
    let dropped_fits : FitsSigned w128 c.from-in-Some.result = search rules in
    let digits_fits : FitsSigned w128 c.from-in-Some-2.result = search rules in
    let point_range = c.ranges.point in
    let dropped_range = c.ranges.dropped in
    let digits_range = c.ranges.digits in
    let first_fits : FitsSigned w128 (c.in-Some.value -ℤ c.from.result) = omega (arith, ints) in
    let second_fits : FitsSigned w128 (c.in-Some.value -ℤ c.from.result +ℤ c.from-in-Some.result) = omega (arith, ints) in
    let third_fits : FitsSigned w128 (c.in-Some.value -ℤ c.from.result +ℤ c.from-in-Some.result +ℤ c.from-in-Some-2.result) = omega (arith, ints) in
    let same : c.in-Some.value -ℤ c.from.result +ℤ c.from-in-Some.result +ℤ c.from-in-Some-2.result ≡ pos c.args.digits +ℤ (with_sign c.args.minus (value_of c.args.exponent_digits.now) -ℤ pos c.args.point +ℤ pos c.args.dropped) = omega (arith, ints) in
    simp to_z-of_z
    (subst (λ (place : ℤ). Decides (int_le (pos 21) (c.in-Some.value -ℤ c.from.result +ℤ c.from-in-Some.result +ℤ c.from-in-Some-2.result)) (pos 21 ≤ℤ place)) same
    (int_le-decides (pos 21) (c.in-Some.value -ℤ c.from.result +ℤ c.from-in-Some.result +ℤ c.from-in-Some-2.result)))
