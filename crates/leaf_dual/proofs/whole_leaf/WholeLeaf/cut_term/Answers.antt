use Rattle.std.proofs.Common.{◌≡◌, ◌∙◌, sym, ap, subst, arith, pos, to_z, of_z, w64}
use Rattle.std.proofs.lemmas.Int.{ints}
use Rattle.std.proofs.lemmas.Option.{IfSome_then}
use Rattle.frac128.specs.Rational.{neg_ℚ}
use Rattle.frac128.specs.LowestTerms.{quotient_of}
use Rattle.lp_model.specs.Formulations.{cut_coefficient}
use Rattle.leaf_dual.specs.Dual.{cut_weight}
use Rattle.whole_sums.specs.Wholes.{IsShort, IsWholeTerm}
use Rattle.whole_sums.proofs.SumLemmas.{none_taken}
use Rattle.whole_sums.proofs.ReadLemmas.{short_read, short_again}
use Rattle.leaf_dual.proofs.whole_leaf.WholeLeaf.cut_term.Goals as goal

pub returns-then-weight-eq0 : goal.returns-then-weight-eq0
returns-then-weight-eq0 c =
    let W = c.args.self.now in
    let cuts = W.leaf.cuts.now in
    let k = c.args.cut in
    let z = cut_weight cuts W.leaf.mult.now in
    let d = W.denominator in
    let p = c.requires.whole.denominator.positive in
    let weight = c.in-Some.weight in
    let over = c.requires.whole.cuts k c.in-Some.ensures.within in
    let w_short : IsShort weight = subst IsShort (sym c.in-Some.ensures.value) over.0 in
    let none : weight ≡ pos 0 = let e = c.if-weight-eq0.true in omega (arith, ints, e, w_short) in
    let z_is : quotient_of weight d ≡ z k = ap (λ n. quotient_of n d) c.in-Some.ensures.value ∙ over.1 in
    subst (λ w. IsWholeTerm d (neg_ℚ w) (cut_coefficient cuts k c.args.col) (pos 0) (pos 0)) z_is (none_taken (cut_coefficient cuts k c.args.col) weight d p none)

pub returns : goal.returns
returns c =
    let W = c.args.self.now in
    let cuts = W.leaf.cuts.now in
    let k = c.args.cut in
    let z = cut_weight cuts W.leaf.mult.now in
    let d = W.denominator in
    let p = c.requires.whole.denominator.positive in
    let weight = c.in-Some.weight in
    let over = c.requires.whole.cuts k c.in-Some.ensures.within in
    let w_short : IsShort weight = subst IsShort (sym c.in-Some.ensures.value) over.0 in
    let w_is : to_z w64 (of_z w64 weight) ≡ weight = short_read weight w_short in
    let z_is : quotient_of (to_z w64 (of_z w64 weight)) d ≡ z k = ap (λ n. quotient_of n d) (w_is ∙ c.in-Some.ensures.value) ∙ over.1 in
    IfSome_then c.taken_term.result c.taken_term.ensures (λ t h. subst (λ P. P) (λ j. IsWholeTerm d (neg_ℚ (z_is j)) (c.cut_coefficient.ensures j) t.factor t.number) (h d p))

pub taken_term-requires : goal.taken_term-requires
taken_term-requires c =
    let over = c.requires.whole.cuts c.args.cut c.in-Some.ensures.within in
    short_again c.in-Some.weight (subst IsShort (sym c.in-Some.ensures.value) over.0)
