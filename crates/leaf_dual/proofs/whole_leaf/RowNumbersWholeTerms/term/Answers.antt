use Rattle.std.proofs.Common.{◌≡◌, ◌∙◌, sym, ap, subst, None, to_z, of_z, w64}
use Rattle.std.proofs.lemmas.Option.{IfSome_then}
use Rattle.frac128.specs.LowestTerms.{quotient_of}
use Rattle.lp_model.specs.Program.{low_side, high_side}
use Rattle.lp_model.proofs.ElementLemmas.{of_element-read}
use Rattle.leaf_dual.specs.Dual.{multiplier, needed_side, row_side}
use Rattle.leaf_dual.specs.Answers.{side_number}
use Rattle.whole_sums.specs.Wholes.{IsShort, IsWholeTerm}
use Rattle.whole_sums.proofs.ReadLemmas.{short_read}
use Rattle.leaf_dual.proofs.whole_leaf.RowNumbersWholeTerms.term.Goals as goal

pub returns-clause-value : goal.returns-clause-value
returns-clause-value c =
    let W = c.args.self.now.whole in
    let M = W.leaf.model.now in
    let i = c.args.index in
    let y = multiplier W.leaf.mult.now in
    let d = W.denominator in
    let p = c.requires.lawful.denominator.positive in
    let weight = c.in-Some.weight in
    let over = c.requires.lawful.rows i c.in-Some.ensures.within in
    let w_short : IsShort weight = subst IsShort (sym c.in-Some.ensures.value) over.0 in
    let w_is : to_z w64 (of_z w64 weight) ≡ weight = short_read weight w_short in
    let y_is : quotient_of (to_z w64 (of_z w64 weight)) d ≡ y i = ap (λ n. quotient_of n d) (w_is ∙ c.in-Some.ensures.value) ∙ over.1 in
    let row = c.index-rows-index.result in
    let low : row.lo ≡ low_side M i = of_element-read None (λ r. r.lo) M.rows c.rows.result.now i row c.rows.ensures.items c.requires.index c.index-rows-index.is in
    let high : row.hi ≡ high_side M i = of_element-read None (λ r. r.hi) M.rows c.rows.result.now i row c.rows.ensures.items c.requires.index c.index-rows-index.is in
    let side_is : c.whole_side-side.result ≡ row_side M y i = c.whole_side-side.ensures d p ∙ (λ t. needed_side (y_is t) (low t) (high t)) in
    IfSome_then c.side_term.result c.side_term.ensures.value (λ t h. subst (λ P. P) (λ j. IsWholeTerm d (y_is j) (side_number (side_is j)) t.factor t.number) (h d p))

pub returns-clause-holds : goal.returns-clause-holds
returns-clause-holds c =
    let W = c.args.self.now.whole in
    let M = W.leaf.model.now in
    let i = c.args.index in
    let y = multiplier W.leaf.mult.now in
    let d = W.denominator in
    let p = c.requires.lawful.denominator.positive in
    let weight = c.in-Some.weight in
    let over = c.requires.lawful.rows i c.in-Some.ensures.within in
    let w_short : IsShort weight = subst IsShort (sym c.in-Some.ensures.value) over.0 in
    let w_is : to_z w64 (of_z w64 weight) ≡ weight = short_read weight w_short in
    let y_is : quotient_of (to_z w64 (of_z w64 weight)) d ≡ y i = ap (λ n. quotient_of n d) (w_is ∙ c.in-Some.ensures.value) ∙ over.1 in
    let row = c.index-rows-index.result in
    let low : row.lo ≡ low_side M i = of_element-read None (λ r. r.lo) M.rows c.rows.result.now i row c.rows.ensures.items c.requires.index c.index-rows-index.is in
    let high : row.hi ≡ high_side M i = of_element-read None (λ r. r.hi) M.rows c.rows.result.now i row c.rows.ensures.items c.requires.index c.index-rows-index.is in
    let side_is : c.whole_side-side.result ≡ row_side M y i = c.whole_side-side.ensures d p ∙ (λ t. needed_side (y_is t) (low t) (high t)) in
    IfSome_then c.side_term.result c.side_term.ensures.there (λ t some e. some (side_is ∙ e))
