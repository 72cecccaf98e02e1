use Rattle.std.proofs.Common.{◌≡◌, ◌∙◌, sym, ap, subst, pos, get_or, to_z, of_z, w64}
use Rattle.std.proofs.lemmas.Option.{IfSome_then}
use Rattle.frac128.specs.Rational.{int, neg_ℚ}
use Rattle.frac128.specs.LowestTerms.{quotient_of}
use Rattle.lp_model.proofs.ElementLemmas.{of_element-get}
use Rattle.leaf_dual.specs.Dual.{multiplier}
use Rattle.leaf_dual.specs.Parts.{entry_row, entry_number}
use Rattle.whole_sums.specs.Wholes.{IsShort, IsWholeTerm}
use Rattle.whole_sums.proofs.ReadLemmas.{short_read}
use Rattle.leaf_dual.proofs.whole_leaf.EntryNumbersWholeTerms.term.Goals as goal

pub returns-clause-value : goal.returns-clause-value
returns-clause-value c =
    let W = c.args.self.now.whole in
    let es = c.args.self.now.entries.now in
    let k = c.args.index in
    let y = multiplier W.leaf.mult.now in
    let d = W.denominator in
    let p = c.requires.lawful.denominator.positive in
    let e = c.index-self-index.result in
    let read = get_or es k e in
    let row : entry_row es k ≡ read.0.0 = of_element-get 0 (λ n. n.0.0) es k e c.requires.index c.index-self-index.is ∙ ap (λ n. n.0.0) c.index-self-index.is in
    let number : entry_number es k ≡ read.1 = of_element-get (int (pos 0)) (λ n. n.1) es k e c.requires.index c.index-self-index.is ∙ ap (λ n. n.1) c.index-self-index.is in
    let weight = c.in-Some.weight in
    let over = c.requires.lawful.rows read.0.0 c.in-Some.ensures.within in
    let w_short : IsShort weight = subst IsShort (sym c.in-Some.ensures.value) over.0 in
    let w_is : to_z w64 (of_z w64 weight) ≡ weight = short_read weight w_short in
    let y_is : quotient_of (to_z w64 (of_z w64 weight)) d ≡ y (entry_row es k) = ap (λ n. quotient_of n d) (w_is ∙ c.in-Some.ensures.value) ∙ over.1 ∙ ap y (sym row) in
    IfSome_then c.taken_term.result c.taken_term.ensures (λ t h. subst (λ P. P) (λ j. IsWholeTerm d (neg_ℚ (y_is j)) (sym number j) t.factor t.number) (h d p))
