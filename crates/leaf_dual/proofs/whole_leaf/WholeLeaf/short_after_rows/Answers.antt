use Rattle.std.proofs.Common.{◌∙◌, sym, subst, Ok}
use Rattle.std.proofs.lemmas.Option.{IfSome_then}
use Rattle.frac128.specs.LowestTerms.{quotient_of}
use Rattle.leaf_dual.specs.Parts.{costs, weights}
use Rattle.leaf_dual.specs.private.Parts.{IsReducedCost}
use Rattle.whole_sums.proofs.ReadLemmas.{room_read}
use Rattle.leaf_dual.proofs.whole_leaf.WholeLeaf.short_after_rows.Goals as goal

pub returns-in-Some-clause-left : goal.returns-in-Some-clause-left
returns-in-Some-clause-left c =
    let W = c.args.self.now in
    let left = c.in-Some.left in
    IfSome_then c.short_number.result c.short_number.ensures.value
    (λ n h. subst (λ m. IsReducedCost W.leaf.model.now (weights W.leaf) (costs W.leaf) c.args.col (Ok (quotient_of m W.denominator))) (sym (h ∙ room_read left c.in-Some.ensures.room)) c.in-Some.ensures.left)
