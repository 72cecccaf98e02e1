use Rattle.std.proofs.Common.{◌≡◌, ◌∙◌, sym, subst, length, Ok}
use Rattle.std.proofs.lemmas.Option.{IfSome_then}
use Rattle.frac128.specs.Rational.{neg_ℚ}
use Rattle.frac128.specs.LowestTerms.{quotient_of}
use Rattle.checked_sum.specs.Steps.{AllFit, partial}
use Rattle.lp_model.specs.Formulations.{cut_coefficient}
use Rattle.leaf_dual.specs.Dual.{multiplier, cut_weight}
use Rattle.leaf_dual.specs.Parts.{cost_of}
use Rattle.leaf_dual.specs.private.Parts.{IsAfterCuts, IsCostAnswer}
use Rattle.leaf_dual.proofs.DualLemmas.{cuts-answer}
use Rattle.whole_sums.proofs.ReadLemmas.{room_read, room_again}
use Rattle.leaf_dual.proofs.whole_leaf.WholeLeaf.cost_left.Goals as goal

pub after_cuts-requires-clause-start : goal.after_cuts-requires-clause-start
after_cuts-requires-clause-start c = room_again c.in-Some.by_rows c.in-Some.ensures.room

pub returns-clause-left : goal.returns-clause-left
returns-clause-left c =
    let W = c.args.self.now in
    let M = W.leaf.model.now in
    let cuts = W.leaf.cuts.now in
    let y = multiplier W.leaf.mult.now in
    let z = cut_weight cuts W.leaf.mult.now in
    let costs = cost_of W.leaf.costed M in
    let d = W.denominator in
    let j = c.args.col in
    let by_rows = c.in-Some.by_rows in
    let by_cuts = c.in-Some-after_cuts.by_cuts in
    let after : IsAfterCuts cuts z (quotient_of by_rows d) j (Ok (quotient_of by_cuts d)) =
    subst (λ s. AllFit (quotient_of s d) (λ k. neg_ℚ (z k)) (λ k. cut_coefficient cuts k j) (length cuts) × (quotient_of by_cuts d ≡ partial (quotient_of s d) (λ k. neg_ℚ (z k)) (λ k. cut_coefficient cuts k j) (length cuts)))
    (room_read by_rows c.in-Some.ensures.room) (c.in-Some-after_cuts.ensures.fits, c.in-Some-after_cuts.ensures.value) in
    IfSome_then c.short_number.result c.short_number.ensures.value
    (λ n h. subst (λ m. IsCostAnswer M cuts y z costs j (Ok (quotient_of m d))) (sym (h ∙ room_read by_cuts c.in-Some-after_cuts.ensures.room))
    (cuts-answer M cuts y z costs j (quotient_of by_rows d) c.in-Some.ensures.left (Ok (quotient_of by_cuts d)) after))
