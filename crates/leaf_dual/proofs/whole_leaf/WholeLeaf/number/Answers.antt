use Rattle.std.proofs.Common.{◌≡◌, ◌∙◌, sym, subst, Ok, to_z, of_z, w64}
use Rattle.std.specs.Int.{w128}
use Rattle.frac128.specs.LowestTerms.{quotient_of}
use Rattle.leaf_dual.specs.Dual.{multiplier, cut_weight}
use Rattle.leaf_dual.specs.Parts.{constant_of, cost_of}
use Rattle.leaf_dual.specs.private.Parts.{IsCutsTotal, IsColumnsTotal}
use Rattle.whole_sums.proofs.ReadLemmas.{short_read, denominator_again, room_read, room_again}
use Rattle.leaf_dual.proofs.WholeColumns.{number_over}
use Rattle.leaf_dual.proofs.whole_leaf.WholeLeaf.number.Goals as goal

pub cuts_total-requires-clause-start : goal.cuts_total-requires-clause-start
cuts_total-requires-clause-start c = room_again c.in-Some.rows c.in-Some.ensures.room

pub columns_total-requires-clause-start : goal.columns_total-requires-clause-start
columns_total-requires-clause-start c = room_again c.in-Some-cuts_total.cuts c.in-Some-cuts_total.ensures.room

pub quotient-requires-clause-total : goal.quotient-requires-clause-total
quotient-requires-clause-total c = room_again c.in-Some-columns_total.total c.in-Some-columns_total.ensures.room

pub quotient-requires-clause-positive : goal.quotient-requires-clause-positive
quotient-requires-clause-positive c = (denominator_again c.args.self.now.denominator c.requires.whole.denominator).positive

pub quotient-requires-clause-denominator : goal.quotient-requires-clause-denominator
quotient-requires-clause-denominator c = (denominator_again c.args.self.now.denominator c.requires.whole.denominator).short

pub returns : goal.returns
returns c =
    let W = c.args.self.now in
    let M = W.leaf.model.now in
    let cuts = W.leaf.cuts.now in
    let path = W.leaf.region.now in
    let y = multiplier W.leaf.mult.now in
    let z = cut_weight cuts W.leaf.mult.now in
    let costs = cost_of W.leaf.costed M in
    let d = W.denominator in
    let rows = c.in-Some.rows in
    let r_is : to_z w128 (of_z w128 rows) ≡ rows = room_read rows c.in-Some.ensures.room in
    let by_cuts = c.in-Some-cuts_total.cuts in
    let c_is : to_z w128 (of_z w128 by_cuts) ≡ by_cuts = room_read by_cuts c.in-Some-cuts_total.ensures.room in
    let total = c.in-Some-columns_total.total in
    let t_is : to_z w128 (of_z w128 total) ≡ total = room_read total c.in-Some-columns_total.ensures.room in
    let d_is : to_z w64 (of_z w64 d) ≡ d = short_read d c.requires.whole.denominator.short in
    let cuts_are : IsCutsTotal cuts z (quotient_of rows d) (Ok (quotient_of by_cuts d)) = subst (λ s. IsCutsTotal cuts z (quotient_of s d) (Ok (quotient_of by_cuts d))) r_is c.in-Some-cuts_total.ensures.total in
    let columns_are : IsColumnsTotal M cuts path y z costs (quotient_of by_cuts d) (Ok c.quotient.result) =
    subst (λ s. IsColumnsTotal M cuts path y z costs (quotient_of s d) (Ok c.quotient.result)) c_is
    (subst (λ v. IsColumnsTotal M cuts path y z costs (quotient_of (to_z w128 (of_z w128 by_cuts)) d) (Ok v)) (sym (c.quotient.ensures ∙ (λ i. quotient_of (t_is i) (d_is i)))) c.in-Some-columns_total.ensures.total) in
    number_over M cuts path y z costs (constant_of W.leaf.costed M) (quotient_of rows d) (quotient_of by_cuts d) c.quotient.result c.in-Some.ensures.sides c.in-Some-cuts_total.ensures.sides c.in-Some-columns_total.ensures.sides
    c.in-Some.ensures.total cuts_are columns_are
