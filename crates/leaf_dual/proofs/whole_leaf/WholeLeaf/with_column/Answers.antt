use Rattle.std.proofs.Common.{◌≡◌, ◌∙◌, ap, subst, ◌+ℤ◌, ◌*ℤ◌, to_z, of_z, w64}
use Rattle.std.specs.Int.{w128}
use Rattle.std.proofs.lemmas.Option.{IfSome_then}
use Rattle.frac128.specs.LowestTerms.{quotient_of}
use Rattle.lp_model.specs.Regions.{region_low, region_high}
use Rattle.leaf_dual.specs.Dual.{multiplier, cut_weight, needed_side}
use Rattle.leaf_dual.specs.Answers.{side_number}
use Rattle.leaf_dual.specs.Parts.{cost_of}
use Rattle.whole_sums.specs.Wholes.{IsWholeTerm}
use Rattle.whole_sums.proofs.ReadLemmas.{short_read, short_again, room_read, room_again}
use Rattle.whole_sums.proofs.SumLemmas.{both}
use Rattle.leaf_dual.proofs.WholeColumns.{side_over, column_over}
use Rattle.leaf_dual.proofs.whole_leaf.WholeLeaf.with_column.Goals as goal

pub side_term-requires : goal.side_term-requires
side_term-requires c = short_again c.in-Some.reduced c.in-Some.ensures.short

pub with_product-requires-clause-total : goal.with_product-requires-clause-total
with_product-requires-clause-total c = room_again c.args.total c.requires.total

pub with_product-requires-clause-factor : goal.with_product-requires-clause-factor
with_product-requires-clause-factor c =
    let is = c.requires.whole.denominator in
    let term = c.in-Some-side_term.ensures.value c.args.self.now.denominator is.positive in
    short_again c.in-Some-side_term.term.factor term.factor_short

pub with_product-requires-clause-number : goal.with_product-requires-clause-number
with_product-requires-clause-number c =
    let is = c.requires.whole.denominator in
    let term = c.in-Some-side_term.ensures.value c.args.self.now.denominator is.positive in
    short_again c.in-Some-side_term.term.number term.number_short

pub returns-clause-column : goal.returns-clause-column
returns-clause-column c =
    let W = c.args.self.now in
    let M = W.leaf.model.now in
    let cuts = W.leaf.cuts.now in
    let path = W.leaf.region.now in
    let y = multiplier W.leaf.mult.now in
    let z = cut_weight cuts W.leaf.mult.now in
    let costs = cost_of W.leaf.costed M in
    let d = W.denominator in
    let p = c.requires.whole.denominator.positive in
    let j = c.args.col in
    let reduced = c.in-Some.reduced in
    let r_is : to_z w64 (of_z w64 reduced) ≡ reduced = short_read reduced c.in-Some.ensures.short in
    let side = c.column_side-side.result in
    let side_is : side ≡ needed_side (quotient_of reduced d) (region_low M path j) (region_high M path j) =
    c.column_side-side.ensures d p ∙ ap (λ n. needed_side (quotient_of n d) (region_low M path j) (region_high M path j)) r_is in
    let f = c.in-Some-side_term.term.factor in
    let n = c.in-Some-side_term.term.number in
    let term : IsWholeTerm d (quotient_of reduced d) (side_number side) f n = subst (λ m. IsWholeTerm d (quotient_of m d) (side_number side) f n) r_is (c.in-Some-side_term.ensures.value d p) in
    let f_is : to_z w64 (of_z w64 f) ≡ f = short_read f term.factor_short in
    let n_is : to_z w64 (of_z w64 n) ≡ n = short_read n term.number_short in
    let t_is : to_z w128 (of_z w128 c.args.total) ≡ c.args.total = room_read c.args.total c.requires.total in
    IfSome_then c.with_product.result (both _ _ c.with_product.result c.with_product.ensures.value c.with_product.ensures.room)
    (λ next h. column_over M cuts path y z costs j d reduced c.in-Some.ensures.left side side_is c.args.total f n next c.requires.whole.denominator c.requires.total term (h.0 ∙ (λ i. t_is i +ℤ f_is i *ℤ n_is i)) h.1)

pub returns-clause-side : goal.returns-clause-side
returns-clause-side c =
    let W = c.args.self.now in
    let M = W.leaf.model.now in
    let cuts = W.leaf.cuts.now in
    let path = W.leaf.region.now in
    let y = multiplier W.leaf.mult.now in
    let z = cut_weight cuts W.leaf.mult.now in
    let costs = cost_of W.leaf.costed M in
    let d = W.denominator in
    let p = c.requires.whole.denominator.positive in
    let j = c.args.col in
    let reduced = c.in-Some.reduced in
    let r_is : to_z w64 (of_z w64 reduced) ≡ reduced = short_read reduced c.in-Some.ensures.short in
    let side = c.column_side-side.result in
    let side_is : side ≡ needed_side (quotient_of reduced d) (region_low M path j) (region_high M path j) =
    c.column_side-side.ensures d p ∙ ap (λ n. needed_side (quotient_of n d) (region_low M path j) (region_high M path j)) r_is in
    let some = side_over M cuts path y z costs j d reduced c.in-Some.ensures.left side side_is c.in-Some-side_term.ensures.there in
    IfSome_then c.with_product.result c.with_product.ensures.room (λ next h. some)
