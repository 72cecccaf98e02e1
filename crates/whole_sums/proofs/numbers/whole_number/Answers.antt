use Rattle.std.proofs.Common.{◌≡◌, ◌∙◌, sym, ap, arith, to_z, of_z}
use Rattle.std.specs.Int.{w128}
use Rattle.std.proofs.lemmas.Int.{ints}
use Rattle.std.proofs.lemmas.Option.{IfSome_then}
use Rattle.frac128.specs.Rational.{int}
use Rattle.frac128.proofs.Integers.{int-num}
use Rattle.whole_sums.proofs.numbers.whole_number.Goals as goal

pub returns-then-is_whole-clause-value : goal.returns-then-is_whole-clause-value
returns-then-is_whole-clause-value c =
    let x = c.args.fraction.now in
    let e = c.numerator.ensures in
    let room = c.has_room.ensures.numerator in
    let read : to_z w128 (of_z w128 c.numerator.result) ≡ x.num = omega (arith, ints, e, room) in
    IfSome_then c.short_number.result c.short_number.ensures.value (λ n h. int-num x (c.is_whole.ensures.0 c.if-is_whole.true) ∙ ap int (sym (h ∙ read)))
