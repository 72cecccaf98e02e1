use Rattle.std.proofs.Common.{◌≡◌, ◌∙◌, sym, ap, subst, Some, None, to_z, of_z, w64}
use Rattle.std.proofs.lemmas.Option.{IfSome_then}
use Rattle.frac128.specs.LowestTerms.{quotient_of}
use Rattle.leaf_dual.specs.Dual.{cut_weight, needed_side, cut_side}
use Rattle.leaf_dual.specs.Answers.{side_number}
use Rattle.whole_sums.specs.Wholes.{IsShort, IsWholeTerm}
use Rattle.leaf_dual.proofs.CutLemmas.{high-is}
use Rattle.whole_sums.proofs.ReadLemmas.{short_read}
use Rattle.leaf_dual.proofs.whole_leaf.CutNumbersWholeTerms.term.Goals as goal

pub returns-clause-value : goal.returns-clause-value
returns-clause-value c =
    let W = c.args.self.now.whole in
    let cuts = W.leaf.cuts.now in
    let k = c.args.index in
    let z = cut_weight cuts W.leaf.mult.now in
    let d = W.denominator in
    let p = c.requires.lawful.denominator.positive in
    let weight = c.in-Some.weight in
    let over = c.requires.lawful.cuts k c.in-Some.ensures.within in
    let w_short : IsShort weight = subst IsShort (sym c.in-Some.ensures.value) over.0 in
    let w_is : to_z w64 (of_z w64 weight) ≡ weight = short_read weight w_short in
    let z_is : quotient_of (to_z w64 (of_z w64 weight)) d ≡ z k = ap (λ n. quotient_of n d) (w_is ∙ c.in-Some.ensures.value) ∙ over.1 in
    let cut = c.index-self-index.result in
    let high = ap (λ r. Some r.hi) (sym c.index-self-index.is) ∙ sym (high-is cuts k cut c.requires.index c.index-self-index.is) in
    let side_is : c.whole_side-side.result ≡ cut_side cuts z k = c.whole_side-side.ensures d p ∙ (λ t. needed_side (z_is t) None (high t)) in
    IfSome_then c.side_term.result c.side_term.ensures.value (λ t h. subst (λ P. P) (λ j. IsWholeTerm d (z_is j) (side_number (side_is j)) t.factor t.number) (h d p))

pub returns-clause-holds : goal.returns-clause-holds
returns-clause-holds c =
    let W = c.args.self.now.whole in
    let cuts = W.leaf.cuts.now in
    let k = c.args.index in
    let z = cut_weight cuts W.leaf.mult.now in
    let d = W.denominator in
    let p = c.requires.lawful.denominator.positive in
    let weight = c.in-Some.weight in
    let over = c.requires.lawful.cuts k c.in-Some.ensures.within in
    let w_short : IsShort weight = subst IsShort (sym c.in-Some.ensures.value) over.0 in
    let w_is : to_z w64 (of_z w64 weight) ≡ weight = short_read weight w_short in
    let z_is : quotient_of (to_z w64 (of_z w64 weight)) d ≡ z k = ap (λ n. quotient_of n d) (w_is ∙ c.in-Some.ensures.value) ∙ over.1 in
    let cut = c.index-self-index.result in
    let high = ap (λ r. Some r.hi) (sym c.index-self-index.is) ∙ sym (high-is cuts k cut c.requires.index c.index-self-index.is) in
    let side_is : c.whole_side-side.result ≡ cut_side cuts z k = c.whole_side-side.ensures d p ∙ (λ t. needed_side (z_is t) None (high t)) in
    IfSome_then c.side_term.result c.side_term.ensures.there (λ t some e. some (side_is ∙ e))
