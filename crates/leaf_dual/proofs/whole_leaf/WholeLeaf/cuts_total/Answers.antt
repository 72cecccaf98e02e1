use Rattle.std.proofs.Common.{◌≡◌, subst, length, to_z, of_z}
use Rattle.std.specs.Int.{w128}
use Rattle.std.proofs.lemmas.Option.{IfSome_then}
use Rattle.frac128.specs.LowestTerms.{quotient_of}
use Rattle.checked_sum.specs.Steps.{AllFit, partial}
use Rattle.leaf_dual.specs.Dual.{cut_weight}
use Rattle.leaf_dual.specs.Answers.{cut_number}
use Rattle.whole_sums.proofs.ReadLemmas.{room_read, room_again}
use Rattle.whole_sums.proofs.SumLemmas.{both}
use Rattle.leaf_dual.proofs.whole_leaf.WholeLeaf.cuts_total.Goals as goal

pub whole_total-requires-clause-start : goal.whole_total-requires-clause-start
whole_total-requires-clause-start c = room_again c.args.start c.requires.start

pub returns-clause-total : goal.returns-clause-total
returns-clause-total c =
    let W = c.args.self.now in
    let cuts = W.leaf.cuts.now in
    let z = cut_weight cuts W.leaf.mult.now in
    let d = W.denominator in
    let s_is : to_z w128 (of_z w128 c.args.start) ≡ c.args.start = room_read c.args.start c.requires.start in
    IfSome_then c.whole_total.result (both _ _ c.whole_total.result c.whole_total.ensures.fits c.whole_total.ensures.value)
    (λ total h. subst (λ s. AllFit (quotient_of s d) z (cut_number cuts z) (length cuts) × (quotient_of total d ≡ partial (quotient_of s d) z (cut_number cuts z) (length cuts))) s_is h)

pub returns-clause-sides : goal.returns-clause-sides
returns-clause-sides c = IfSome_then c.whole_total.result c.whole_total.ensures.holds (λ total h lacks. h lacks.0 lacks.1.0 lacks.1.1)
