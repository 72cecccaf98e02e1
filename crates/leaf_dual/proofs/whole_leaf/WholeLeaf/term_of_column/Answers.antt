use Rattle.std.proofs.Common.{◌≡◌, ◌∙◌, ap, to_z, of_z, w64}
use Rattle.frac128.specs.LowestTerms.{quotient_of}
use Rattle.lp_model.specs.Regions.{region_low, region_high}
use Rattle.leaf_dual.specs.Dual.{multiplier, cut_weight, needed_side}
use Rattle.leaf_dual.specs.Parts.{cost_of}
use Rattle.whole_sums.proofs.ReadLemmas.{short_read, short_again, denominator_again}
use Rattle.leaf_dual.proofs.PartLemmas.{column_found}
use Rattle.leaf_dual.proofs.whole_leaf.WholeLeaf.term_of_column.Goals as goal

pub term_over-requires-clause-weight : goal.term_over-requires-clause-weight
term_over-requires-clause-weight c = short_again c.in-Some.reduced c.in-Some.ensures.short

pub term_over-requires-clause-denominator : goal.term_over-requires-clause-denominator
term_over-requires-clause-denominator c = denominator_again c.args.self.now.denominator c.requires.whole.denominator

pub returns : goal.returns
returns c =
    let W = c.args.self.now in
    let M = W.leaf.model.now in
    let cuts = W.leaf.cuts.now in
    let path = W.leaf.region.now in
    let d = W.denominator in
    let j = c.args.col in
    let reduced = c.in-Some.reduced in
    let r_is : to_z w64 (of_z w64 reduced) ≡ reduced = short_read reduced c.in-Some.ensures.short in
    let d_is : to_z w64 (of_z w64 d) ≡ d = short_read d c.requires.whole.denominator.short in
    let side = c.column_side-side.result in
    let side_is : side ≡ needed_side (quotient_of reduced d) (region_low M path j) (region_high M path j) =
    c.column_side-side.ensures d c.requires.whole.denominator.positive ∙ ap (λ n. needed_side (quotient_of n d) (region_low M path j) (region_high M path j)) r_is in
    let factor_is : quotient_of (to_z w64 (of_z w64 reduced)) (to_z w64 (of_z w64 d)) ≡ quotient_of reduced d = (λ i. quotient_of (r_is i) (d_is i)) in
    column_found M cuts path (multiplier W.leaf.mult.now) (cut_weight cuts W.leaf.mult.now) (cost_of W.leaf.costed M) j (quotient_of reduced d) c.in-Some.ensures.left side side_is (quotient_of (to_z w64 (of_z w64 reduced)) (to_z w64 (of_z w64 d))) factor_is
    c.term_over.result c.term_over.ensures
