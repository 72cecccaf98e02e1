use Rattle.std.proofs.Common.{◌≡◌, ◌∙◌, ◌<◌, sym, ap, subst, length, to_z, of_z, w64}
use Rattle.std.specs.Int.{w128}
use Rattle.std.proofs.lemmas.Option.{IfSome_then}
use Rattle.frac128.specs.LowestTerms.{quotient_of}
use Rattle.leaf_dual.specs.Dual.{multiplier}
use Rattle.leaf_dual.specs.Parts.{cost_of}
use Rattle.leaf_dual.proofs.DualLemmas.{reduced-ok}
use Rattle.whole_sums.proofs.ReadLemmas.{short_read, denominator_again, start_read, start_again}
use Rattle.whole_sums.proofs.SumLemmas.{both}
use Rattle.leaf_dual.proofs.whole_leaf.WholeLeaf.after_rows.Goals as goal

pub bounds-cols-col : goal.bounds-cols-col
bounds-cols-col c = subst (λ n. c.args.col < n) (sym (ap length c.cols.ensures.items)) c.requires.within

pub short_over-requires : goal.short_over-requires
short_over-requires c = denominator_again c.args.self.now.denominator c.requires.whole.denominator

pub whole_total-requires-clause-start : goal.whole_total-requires-clause-start
whole_total-requires-clause-start c = start_again c.from.result c.in-Some.start c.in-Some.ensures.short c.from.ensures

pub returns-clause-left : goal.returns-clause-left
returns-clause-left c =
    let W = c.args.self.now in
    let M = W.leaf.model.now in
    let y = multiplier W.leaf.mult.now in
    let costs = cost_of W.leaf.costed M in
    let d = W.denominator in
    let j = c.args.col in
    let col = c.index-cols-col.result in
    let start = c.in-Some.start in
    let d_is : to_z w64 (of_z w64 d) ≡ d = short_read d c.requires.whole.denominator.short in
    let from = to_z w128 (of_z w128 c.from.result) in
    let from_is : from ≡ start = start_read c.from.result start c.in-Some.ensures.short c.from.ensures in
    let start_is : quotient_of from d ≡ costs j = ap (λ n. quotient_of n d) from_is ∙ ap (quotient_of start) (sym d_is) ∙ sym c.in-Some.ensures.value ∙ c.cost.ensures in
    IfSome_then c.whole_total.result (both _ _ c.whole_total.result c.whole_total.ensures.fits c.whole_total.ensures.value)
    (λ total h.
    reduced-ok M c.cols.ensures.lawful y costs j c.requires.within c.cols.result.now col c.cols.ensures.items c.index-cols-col.is c.as_slice-entries.result.now (quotient_of from d)
    (c.as_slice-entries.ensures ∙ ap (λ n. n.rows) (sym c.index-cols-col.is)) start_is (quotient_of total d) h)
