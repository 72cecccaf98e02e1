use Rattle.std.proofs.Common.{◌≡◌, ◌∙◌, sym, ap, subst, None, to_z, of_z, w64}
use Rattle.frac128.specs.LowestTerms.{quotient_of}
use Rattle.lp_model.specs.Program.{low_side, high_side}
use Rattle.lp_model.proofs.ElementLemmas.{of_element-read}
use Rattle.leaf_dual.specs.Dual.{multiplier, needed_side, row_side}
use Rattle.whole_sums.specs.Wholes.{IsShort}
use Rattle.whole_sums.proofs.ReadLemmas.{short_read, short_again, denominator_again}
use Rattle.leaf_dual.proofs.PartLemmas.{found_by}
use Rattle.leaf_dual.proofs.whole_leaf.WholeLeaf.term_of_row.Goals as goal

pub term_over-requires-clause-weight : goal.term_over-requires-clause-weight
term_over-requires-clause-weight c =
    let over = c.requires.whole.rows c.args.index c.in-Some.ensures.within in
    short_again c.in-Some.weight (subst IsShort (sym c.in-Some.ensures.value) over.0)

pub term_over-requires-clause-denominator : goal.term_over-requires-clause-denominator
term_over-requires-clause-denominator c = denominator_again c.args.self.now.denominator c.requires.whole.denominator

pub returns : goal.returns
returns c =
    let W = c.args.self.now in
    let M = W.leaf.model.now in
    let i = c.args.index in
    let y = multiplier W.leaf.mult.now in
    let d = W.denominator in
    let p = c.requires.whole.denominator.positive in
    let weight = c.in-Some.weight in
    let over = c.requires.whole.rows i c.in-Some.ensures.within in
    let w_short : IsShort weight = subst IsShort (sym c.in-Some.ensures.value) over.0 in
    let w_is : to_z w64 (of_z w64 weight) ≡ weight = short_read weight w_short in
    let d_is : to_z w64 (of_z w64 d) ≡ d = short_read d c.requires.whole.denominator.short in
    let y_is : quotient_of (to_z w64 (of_z w64 weight)) d ≡ y i = ap (λ n. quotient_of n d) (w_is ∙ c.in-Some.ensures.value) ∙ over.1 in
    let row = c.index-rows-index.result in
    let low : row.lo ≡ low_side M i = of_element-read None (λ r. r.lo) M.rows c.rows.result.now i row c.rows.ensures.items c.requires.index c.index-rows-index.is in
    let high : row.hi ≡ high_side M i = of_element-read None (λ r. r.hi) M.rows c.rows.result.now i row c.rows.ensures.items c.requires.index c.index-rows-index.is in
    let side_is : c.whole_side-side.result ≡ row_side M y i = c.whole_side-side.ensures d p ∙ (λ t. needed_side (y_is t) (low t) (high t)) in
    let factor_is : quotient_of (to_z w64 (of_z w64 weight)) (to_z w64 (of_z w64 d)) ≡ y i = ap (quotient_of (to_z w64 (of_z w64 weight))) d_is ∙ y_is in
    found_by c.whole_side-side.result (row_side M y i) (quotient_of (to_z w64 (of_z w64 weight)) (to_z w64 (of_z w64 d))) (y i) side_is factor_is c.term_over.result c.term_over.ensures
