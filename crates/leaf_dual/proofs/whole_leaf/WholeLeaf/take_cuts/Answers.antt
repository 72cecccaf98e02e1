use Rattle.std.proofs.Common.{◌≡◌, ◌∙◌, ◌+◌, ℕ, ap, subst, arith, length, [], pos}
use Rattle.frac128.specs.Rational.{ℚ, int, neg_ℚ}
use Rattle.frac128.specs.RationalRing.{ring, reads_ℚ}
use Rattle.lp_model.specs.Formulations.{cut_coefficient}
use Rattle.leaf_dual.specs.Parts.{cut_weights}
use Rattle.leaf_dual.specs.private.CostsLeft.{AreAllTaken}
use Rattle.whole_sums.specs.Wholes.{whole_number_at}
use Rattle.leaf_dual.proofs.CostsLeft.{no_products, further_product, products_skipped}
use Rattle.leaf_dual.proofs.whole_leaf.WholeLeaf.take_cuts.Goals as goal

nothing : neg_ℚ (int (pos 0)) ≡ int (pos 0)
nothing = ring [] (search reads_ℚ) tt

pub loop-place-init : goal.loop-place-init
loop-place-init c =
    let W = c.args.self.now in
    let d = W.denominator in
    let a : ℕ → ℚ = λ k. neg_ℚ (cut_weights W.leaf k) in
    let n = c.next_weighed-place.result in
    record {
      within = c.next_weighed-place.ensures.within;
      taken = λ j below.
          let old = whole_number_at c.args.lefts.now j in
          products_skipped d a (λ k. cut_coefficient W.leaf.cuts.now k j) old 0 n old c.next_weighed-place.ensures.from (λ k from less. ap neg_ℚ (c.next_weighed-place.ensures.free k from less) ∙ nothing)
          (no_products d a (λ k. cut_coefficient W.leaf.cuts.now k j) old (c.requires.short j below));
    }

pub take_cut-requires-clause-short : goal.take_cut-requires-clause-short
take_cut-requires-clause-short c = λ j below. (c.loop-place.invariant.taken j below).0

pub loop-place-preserved : goal.loop-place-preserved
loop-place-preserved c =
    let W = c.args.self.now in
    let d = W.denominator in
    let a : ℕ → ℚ = λ k. neg_ℚ (cut_weights W.leaf k) in
    let place = c.loop-place.place in
    let after = c.next_weighed-place-in-loop-place in
    record {
      within = after.ensures.within;
      taken = λ j below.
          let x : ℕ → ℚ = λ k. cut_coefficient W.leaf.cuts.now k j in
          let old = whole_number_at c.args.lefts.now j in
          let at = whole_number_at c.loop-place.lefts j in
          let new = whole_number_at c.take_cut.new.lefts j in
          products_skipped d a x old (place + 1) after.result new after.ensures.from (λ k from less. ap neg_ℚ (after.ensures.free k from less) ∙ nothing)
          (further_product d a x old place at new (c.loop-place.invariant.taken j below) (c.take_cut.ensures c.if-not-take_cut.false j below));
    }

pub returns : goal.returns
returns c = λ t.
    let W = c.args.self.now in
    let past = c.loop-place-test.false in
    let all : c.loop-place.place ≡ length W.leaf.cuts.now = let within = c.loop-place.invariant.within in omega (arith, past, within) in
    subst (λ m. AreAllTaken W.denominator (λ k. neg_ℚ (cut_weights W.leaf k)) (cut_coefficient W.leaf.cuts.now) m c.args.count c.args.lefts.now c.loop-place.lefts) all c.loop-place.invariant.taken
