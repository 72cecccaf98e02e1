use Rattle.std.proofs.Common.{◌≡◌, ◌∙◌, sym, ap, subst, Some, None, to_z, of_z, w64}
use Rattle.frac128.specs.LowestTerms.{quotient_of}
use Rattle.leaf_dual.specs.Dual.{cut_weight, needed_side, cut_side}
use Rattle.leaf_dual.proofs.CutLemmas.{high-is}
use Rattle.whole_sums.specs.Wholes.{IsShort}
use Rattle.whole_sums.proofs.ReadLemmas.{short_read, short_again, denominator_again}
use Rattle.leaf_dual.proofs.PartLemmas.{found_by}
use Rattle.leaf_dual.proofs.whole_leaf.WholeLeaf.term_of_cut.Goals as goal

pub term_over-requires-clause-weight : goal.term_over-requires-clause-weight
term_over-requires-clause-weight c =
    let over = c.requires.whole.cuts c.args.index c.in-Some.ensures.within in
    short_again c.in-Some.weight (subst IsShort (sym c.in-Some.ensures.value) over.0)

pub term_over-requires-clause-denominator : goal.term_over-requires-clause-denominator
term_over-requires-clause-denominator c = denominator_again c.args.self.now.denominator c.requires.whole.denominator

pub returns : goal.returns
returns c =
    let W = c.args.self.now in
    let cuts = W.leaf.cuts.now in
    let k = c.args.index in
    let z = cut_weight cuts W.leaf.mult.now in
    let d = W.denominator in
    let p = c.requires.whole.denominator.positive in
    let weight = c.in-Some.weight in
    let over = c.requires.whole.cuts k c.in-Some.ensures.within in
    let w_short : IsShort weight = subst IsShort (sym c.in-Some.ensures.value) over.0 in
    let w_is : to_z w64 (of_z w64 weight) ≡ weight = short_read weight w_short in
    let d_is : to_z w64 (of_z w64 d) ≡ d = short_read d c.requires.whole.denominator.short in
    let z_is : quotient_of (to_z w64 (of_z w64 weight)) d ≡ z k = ap (λ n. quotient_of n d) (w_is ∙ c.in-Some.ensures.value) ∙ over.1 in
    let cut = c.index-self-index.result in
    let high = ap (λ r. Some r.hi) (sym c.index-self-index.is) ∙ sym (high-is cuts k cut c.requires.index c.index-self-index.is) in
    let side_is : c.whole_side-side.result ≡ cut_side cuts z k = c.whole_side-side.ensures d p ∙ (λ t. needed_side (z_is t) None (high t)) in
    let factor_is : quotient_of (to_z w64 (of_z w64 weight)) (to_z w64 (of_z w64 d)) ≡ z k = ap (quotient_of (to_z w64 (of_z w64 weight))) d_is ∙ z_is in
    found_by c.whole_side-side.result (cut_side cuts z k) (quotient_of (to_z w64 (of_z w64 weight)) (to_z w64 (of_z w64 d))) (z k) side_is factor_is c.term_over.result c.term_over.ensures
