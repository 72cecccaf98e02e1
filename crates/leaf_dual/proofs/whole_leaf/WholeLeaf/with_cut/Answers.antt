use Rattle.std.proofs.Common.{◌≡◌, ◌∙◌, ◌+ℤ◌, ◌*ℤ◌, to_z, of_z, w64}
use Rattle.std.specs.Int.{w128}
use Rattle.std.proofs.lemmas.Option.{IfSome_then}
use Rattle.frac128.specs.Rational.{neg_ℚ}
use Rattle.lp_model.specs.Formulations.{cut_coefficient}
use Rattle.leaf_dual.specs.Dual.{cut_weight}
use Rattle.whole_sums.specs.Wholes.{IsWholeTerm}
use Rattle.whole_sums.proofs.ReadLemmas.{short_read, short_again, room_read, room_again}
use Rattle.whole_sums.proofs.SumLemmas.{both, step_fits, step_value}
use Rattle.leaf_dual.proofs.whole_leaf.WholeLeaf.with_cut.Goals as goal

pub with_product-requires-clause-total : goal.with_product-requires-clause-total
with_product-requires-clause-total c = room_again c.args.total c.requires.total

pub with_product-requires-clause-factor : goal.with_product-requires-clause-factor
with_product-requires-clause-factor c = short_again c.in-Some.term.factor c.in-Some.ensures.factor_short

pub with_product-requires-clause-number : goal.with_product-requires-clause-number
with_product-requires-clause-number c = short_again c.in-Some.term.number c.in-Some.ensures.number_short

pub returns-clause-fits : goal.returns-clause-fits
returns-clause-fits c =
    let W = c.args.self.now in
    let d = W.denominator in
    let a = neg_ℚ (cut_weight W.leaf.cuts.now W.leaf.mult.now c.args.cut) in
    let x = cut_coefficient W.leaf.cuts.now c.args.cut c.args.col in
    let f = c.in-Some.term.factor in
    let n = c.in-Some.term.number in
    let term : IsWholeTerm d a x f n = c.in-Some.ensures in
    let f_is : to_z w64 (of_z w64 f) ≡ f = short_read f term.factor_short in
    let n_is : to_z w64 (of_z w64 n) ≡ n = short_read n term.number_short in
    let t_is : to_z w128 (of_z w128 c.args.total) ≡ c.args.total = room_read c.args.total c.requires.total in
    IfSome_then c.with_product.result (both _ _ c.with_product.result c.with_product.ensures.value c.with_product.ensures.room)
    (λ next h. step_fits a x d c.args.total c.requires.whole.denominator c.requires.total f n term next (h.0 ∙ (λ i. t_is i +ℤ f_is i *ℤ n_is i)) h.1)

pub returns-clause-value : goal.returns-clause-value
returns-clause-value c =
    let W = c.args.self.now in
    let d = W.denominator in
    let a = neg_ℚ (cut_weight W.leaf.cuts.now W.leaf.mult.now c.args.cut) in
    let x = cut_coefficient W.leaf.cuts.now c.args.cut c.args.col in
    let f = c.in-Some.term.factor in
    let n = c.in-Some.term.number in
    let term : IsWholeTerm d a x f n = c.in-Some.ensures in
    let f_is : to_z w64 (of_z w64 f) ≡ f = short_read f term.factor_short in
    let n_is : to_z w64 (of_z w64 n) ≡ n = short_read n term.number_short in
    let t_is : to_z w128 (of_z w128 c.args.total) ≡ c.args.total = room_read c.args.total c.requires.total in
    IfSome_then c.with_product.result (both _ _ c.with_product.result c.with_product.ensures.value c.with_product.ensures.room)
    (λ next h. step_value a x d c.args.total c.requires.whole.denominator c.requires.total f n term next (h.0 ∙ (λ i. t_is i +ℤ f_is i *ℤ n_is i)) h.1)
