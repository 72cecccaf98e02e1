use Rattle.std.proofs.Common.{◌≡◌, ◌∙◌, arith, pos, to_z, of_z}
use Rattle.std.specs.Int.{w128}
use Rattle.std.proofs.lemmas.Int.{ints}
use Rattle.frac128.specs.Rational.{den}
use Rattle.frac128.specs.LowestTerms.{quotient_of}
use Rattle.table_entries.proofs.ReadLemmas.{short_read, short_again, positive_again}
use Rattle.table_entries.proofs.WayLemmas.{ratio_is}
use Rattle.table_entries.proofs.wholes.lowest.Goals as goal

pub fraction-value-requires-clause-number : goal.fraction-value-requires-clause-number
fraction-value-requires-clause-number c = short_again c.args.number c.requires.number

pub fraction-value-requires-clause-denominator : goal.fraction-value-requires-clause-denominator
fraction-value-requires-clause-denominator c = short_again c.args.denominator c.requires.denominator

pub fraction-value-requires-clause-positive : goal.fraction-value-requires-clause-positive
fraction-value-requires-clause-positive c = positive_again c.args.denominator c.requires.denominator c.requires.positive

pub returns : goal.returns
returns c =
    let a = c.args in
    let x = c.fraction-value.result in
    let num_room = c.has_room.ensures.numerator in
    let den_room = c.has_room.ensures.denominator in
    let top = c.in-Some.top in
    let bottom = c.in-Some-short_number.bottom in
    let e = c.numerator.ensures in
    let f = c.denominator.ensures in
    let top_is : top ≡ x.num = c.in-Some.ensures.value ∙ (let q : to_z w128 (of_z w128 c.numerator.result) ≡ x.num = omega (arith, ints, e, num_room) in q) in
    let bottom_is : bottom ≡ pos (den x) = c.in-Some-short_number.ensures.value ∙ (let q : to_z w128 (of_z w128 c.denominator.result) ≡ pos (den x) = omega (arith, ints, f, den_room) in q) in
    let top_short = c.in-Some.ensures.short in
    let bottom_short = c.in-Some-short_number.ensures.short in
    ratio_is a.number a.denominator _ _ x c.requires.positive (c.fraction-value.ensures ∙ (λ i. quotient_of (short_read a.number c.requires.number i) (short_read a.denominator c.requires.denominator i)))
    (short_read top top_short ∙ top_is) (short_read bottom bottom_short ∙ bottom_is) (short_again top top_short) (short_again bottom bottom_short)
