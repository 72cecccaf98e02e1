use Rattle.std.proofs.Common.{◌≡◌, ◌∙◌, sym, ap, arith, pos, ◌*ℤ◌, to_z, of_z}
use Rattle.std.specs.Int.{w128}
use Rattle.std.proofs.lemmas.Int.{ints}
use Rattle.std.proofs.lemmas.Option.{IfSome_then}
use Rattle.frac128.specs.Rational.{den}
use Rattle.whole_sums.proofs.ReadLemmas.{short_read, short_again, denominator_again, product_made, product_read}
use Rattle.whole_sums.proofs.SumLemmas.{over_scale}
use Rattle.whole_sums.proofs.numbers.short_over.Goals as goal

pub exact_scale-requires-clause-denominator : goal.exact_scale-requires-clause-denominator
exact_scale-requires-clause-denominator c = denominator_again c.args.denominator c.requires

pub exact_scale-requires-clause-own : goal.exact_scale-requires-clause-own
exact_scale-requires-clause-own c = short_again c.in-Some.own c.in-Some.ensures.short

pub product-requires-clause-first : goal.product-requires-clause-first
product-requires-clause-first c = short_again c.in-Some-short_number.number c.in-Some-short_number.ensures.short

pub product-requires-clause-second : goal.product-requires-clause-second
product-requires-clause-second c = short_again c.in-Some-exact_scale.scale c.in-Some-exact_scale.ensures.short

pub returns-clause-value : goal.returns-clause-value
returns-clause-value c =
    let x = c.args.fraction.now in
    let den_room = c.has_room.ensures.denominator in
    let num_room = c.has_room.ensures.numerator in
    let own = c.in-Some.own in
    let scale = c.in-Some-exact_scale.scale in
    let scale_short = c.in-Some-exact_scale.ensures.short in
    let number = c.in-Some-short_number.number in
    let number_short = c.in-Some-short_number.ensures.short in
    let e = c.denominator.ensures in
    let f = c.numerator.ensures in
    let own_is : own ≡ pos (den x) = c.in-Some.ensures.value ∙ (let q : to_z w128 (of_z w128 c.denominator.result) ≡ pos (den x) = omega (arith, ints, e, den_room) in q) in
    let number_is : number ≡ x.num = c.in-Some-short_number.ensures.value ∙ (let q : to_z w128 (of_z w128 c.numerator.result) ≡ x.num = omega (arith, ints, f, num_room) in q) in
    let scale_is : scale *ℤ pos (den x) ≡ c.args.denominator = ap (λ t. scale *ℤ t) (sym (short_read own c.in-Some.ensures.short ∙ own_is)) ∙ c.in-Some-exact_scale.ensures.value ∙ short_read c.args.denominator c.requires.short in
    let made : c.product.result ≡ number *ℤ scale = product_made c.product.result number scale number_short scale_short c.product.ensures in
    let read : to_z w128 (of_z w128 c.product.result) ≡ x.num *ℤ scale = product_read c.product.result number scale number_short scale_short made ∙ ap (λ t. t *ℤ scale) number_is in
    IfSome_then c.short_number-3.result c.short_number-3.ensures.value (λ n h. over_scale x n c.args.denominator scale c.requires.positive scale_is (h ∙ read))
