use Rattle.std.proofs.Common.{◌≡◌, ◌∙◌, ◌+ℤ◌, ◌*ℤ◌, ap, subst, arith, pos}
use Rattle.std.proofs.lemmas.Int.{ints}
use Rattle.std.proofs.lemmas.Option.{IfSome_then}
use Rattle.frac128.specs.Rational.{neg_ℚ}
use Rattle.frac128.specs.LowestTerms.{quotient_of}
use Rattle.whole_sums.specs.Wholes.{IsWholeTerm}
use Rattle.whole_sums.proofs.ReadLemmas.{short_read, short_again, short_room, start_read, start_again, room_read}
use Rattle.whole_sums.proofs.SumLemmas.{both, step_fits, step_value}
use Rattle.leaf_dual.proofs.costs_left.without_product.Goals as goal

pub taken_term-requires : goal.taken_term-requires
taken_term-requires c = short_again c.args.weight c.requires.weight

pub with_product-requires-clause-total : goal.with_product-requires-clause-total
with_product-requires-clause-total c = start_again c.from.result c.args.left c.requires.left c.from.ensures

pub with_product-requires-clause-factor : goal.with_product-requires-clause-factor
with_product-requires-clause-factor c = short_again c.in-Some.term.factor (c.in-Some.ensures (pos 1) (omega (arith, ints))).factor_short

pub with_product-requires-clause-number : goal.with_product-requires-clause-number
with_product-requires-clause-number c = short_again c.in-Some.term.number (c.in-Some.ensures (pos 1) (omega (arith, ints))).number_short

pub returns : goal.returns
returns c =
    let w = c.args.weight in
    let x = c.args.coefficient.now in
    let f = c.in-Some.term.factor in
    let m = c.in-Some.term.number in
    let next = c.in-Some-with_product.next in
    let room = c.in-Some-with_product.ensures.room in
    IfSome_then c.short_number.result (both _ _ c.short_number.result c.short_number.ensures.short c.short_number.ensures.value)
    (λ n h d is.
    let term : IsWholeTerm d (neg_ℚ (quotient_of w d)) x f m = subst (λ v. IsWholeTerm d (neg_ℚ (quotient_of v d)) x f m) (short_read w c.requires.weight) (c.in-Some.ensures d is.positive) in
    let next_is : next ≡ c.args.left +ℤ f *ℤ m = c.in-Some-with_product.ensures.value ∙ (λ i. start_read c.from.result c.args.left c.requires.left c.from.ensures i +ℤ short_read f term.factor_short i *ℤ short_read m term.number_short i) in
    let n_is = h.1 ∙ room_read next room in
    let fits = step_fits (neg_ℚ (quotient_of w d)) x d c.args.left is (short_room c.args.left c.requires.left) f m term next next_is room in
    let value = step_value (neg_ℚ (quotient_of w d)) x d c.args.left is (short_room c.args.left c.requires.left) f m term next next_is room in
    (h.0, (fits, ap (λ t. quotient_of t d) n_is ∙ value)))
