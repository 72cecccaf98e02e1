use Rattle.std.proofs.Common.{◌∙◌, ◌<◌, ℕ, sym, subst, arith, length, pos, Ok, to_z, of_z, w64, below_more}
use Rattle.std.specs.Prelude.{ℤ}
use Rattle.std.proofs.lemmas.List.{get_or-set_same, get_or-set_other}
use Rattle.frac128.specs.LowestTerms.{quotient_of}
use Rattle.leaf_dual.specs.Parts.{costs, weights}
use Rattle.leaf_dual.specs.private.Parts.{IsReducedCost}
use Rattle.whole_sums.specs.Wholes.{IsShort}
use Rattle.whole_sums.proofs.ReadLemmas.{short_read}
use Rattle.leaf_dual.proofs.whole_leaf.WholeLeaf.write_after_rows.Goals as goal

pub loop-col-preserved : goal.loop-col-preserved
loop-col-preserved c =
    let W = c.args.self.now in
    let Is : ℕ → ℤ → Type 0 = λ j n. IsShort n × IsReducedCost W.leaf.model.now (weights W.leaf) (costs W.leaf) j (Ok (quotient_of n W.denominator)) in
    let numbers = c.loop-col.lefts in
    let at = c.loop-col.col in
    let left = c.in-Some.left in
    let within : at < length numbers = let below = c.loop-col-test.true in let size = c.loop-col.auto.lefts in let places = c.requires.places in let end = c.loop-col.auto.col-end in omega (arith, below, size, places, end) in
    below_more _ _ (λ j h. subst (Is j) (sym (get_or-set_other numbers at j (to_z w64 (of_z w64 left)) (pos 0) (λ e. omega (arith, e, h)))) (c.loop-col.invariant j h))
    (subst (Is at) (sym (get_or-set_same numbers at (to_z w64 (of_z w64 left)) (pos 0) within ∙ short_read left c.in-Some.ensures.short)) (c.in-Some.ensures.short, c.in-Some.ensures.left))
