use Rattle.std.proofs.Common.{◌≡◌, ◌∙◌, sym, ap, subst, length, to_z, of_z, w64}
use Rattle.std.specs.Int.{w128}
use Rattle.std.proofs.lemmas.Option.{IfSome_then}
use Rattle.frac128.specs.LowestTerms.{quotient_of}
use Rattle.checked_sum.specs.Steps.{AllFit, partial}
use Rattle.leaf_dual.specs.Dual.{multiplier}
use Rattle.leaf_dual.specs.Answers.{row_number}
use Rattle.leaf_dual.specs.Parts.{constant_of}
use Rattle.whole_sums.specs.Wholes.{IsShort}
use Rattle.whole_sums.proofs.ReadLemmas.{short_read, denominator_again, start_read, start_again}
use Rattle.whole_sums.proofs.SumLemmas.{both}
use Rattle.leaf_dual.proofs.whole_leaf.WholeLeaf.rows_total.Goals as goal

pub short_over-requires : goal.short_over-requires
short_over-requires c = denominator_again c.args.self.now.denominator c.requires.denominator

pub whole_total-requires-clause-start : goal.whole_total-requires-clause-start
whole_total-requires-clause-start c = start_again c.from.result c.in-Some.start c.in-Some.ensures.short c.from.ensures

pub returns-clause-total : goal.returns-clause-total
returns-clause-total c =
    let W = c.args.self.now in
    let M = W.leaf.model.now in
    let y = multiplier W.leaf.mult.now in
    let d = W.denominator in
    let start = c.in-Some.start in
    let start_short : IsShort start = c.in-Some.ensures.short in
    let d_is : to_z w64 (of_z w64 d) ≡ d = short_read d c.requires.denominator.short in
    let from_is : to_z w128 (of_z w128 c.from.result) ≡ start = start_read c.from.result start start_short c.from.ensures in
    let start_is : quotient_of (to_z w128 (of_z w128 c.from.result)) d ≡ constant_of W.leaf.costed M = ap (λ n. quotient_of n d) from_is ∙ ap (quotient_of start) (sym d_is) ∙ sym c.in-Some.ensures.value ∙ c.constant.ensures in
    IfSome_then c.whole_total.result (both _ _ c.whole_total.result c.whole_total.ensures.fits c.whole_total.ensures.value)
    (λ total h. subst (λ s. AllFit s y (row_number M y) (length M.rows) × (quotient_of total d ≡ partial s y (row_number M y) (length M.rows))) start_is h)

pub returns-clause-sides : goal.returns-clause-sides
returns-clause-sides c = IfSome_then c.whole_total.result c.whole_total.ensures.holds (λ total h lacks. h lacks.0 lacks.1.0 lacks.1.1)
