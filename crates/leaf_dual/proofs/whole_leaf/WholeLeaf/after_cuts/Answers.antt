use Rattle.std.proofs.Common.{◌≡◌, ◌∙◌, ◌+◌, ℕ, sym, ap, subst, arith, length, [], pos, to_z, of_z}
use Rattle.std.specs.Int.{w128}
use Rattle.frac128.specs.Rational.{ℚ, int, neg_ℚ}
use Rattle.frac128.specs.RationalRing.{ring, reads_ℚ}
use Rattle.frac128.specs.LowestTerms.{quotient_of}
use Rattle.checked_sum.specs.Steps.{AllFit, partial}
use Rattle.checked_sum.proofs.StepLaws.{partial_none, partial_next, fits_next}
use Rattle.lp_model.specs.Formulations.{cut_coefficient}
use Rattle.leaf_dual.specs.Dual.{cut_weight}
use Rattle.whole_sums.specs.Wholes.{HasMargin}
use Rattle.whole_sums.proofs.ReadLemmas.{room_read, room_again}
use Rattle.leaf_dual.proofs.SkippedTerms.{AreNone, fits-skipped, partial-skipped}
use Rattle.leaf_dual.proofs.whole_leaf.WholeLeaf.after_cuts.Goals as goal

nothing : neg_ℚ (int (pos 0)) ≡ int (pos 0)
nothing = ring [] (search reads_ℚ) tt

pub loop-place-init : goal.loop-place-init
loop-place-init c =
    let W = c.args.self.now in
    let a : ℕ → ℚ = λ k. neg_ℚ (cut_weight W.leaf.cuts.now W.leaf.mult.now k) in
    let x : ℕ → ℚ = λ k. cut_coefficient W.leaf.cuts.now k c.args.col in
    let start = quotient_of (to_z w128 (of_z w128 c.args.start)) W.denominator in
    let n = c.next_weighed-place.result in
    let none : AreNone start a x 0 n = λ k from below. ap neg_ℚ (c.next_weighed-place.ensures.free k from below) ∙ nothing in
    record {
      within = c.next_weighed-place.ensures.within;
      room = room_again c.args.start c.requires.start;
      total = partial_none start a x ∙ partial-skipped start a x 0 n c.next_weighed-place.ensures.from none;
      fits = fits-skipped start a x 0 n none (λ k below. absurd (omega (arith, below)));
    }

pub loop-place-preserved : goal.loop-place-preserved
loop-place-preserved c =
    let W = c.args.self.now in
    let d = W.denominator in
    let a : ℕ → ℚ = λ k. neg_ℚ (cut_weight W.leaf.cuts.now W.leaf.mult.now k) in
    let x : ℕ → ℚ = λ k. cut_coefficient W.leaf.cuts.now k c.args.col in
    let start = quotient_of (to_z w128 (of_z w128 c.args.start)) d in
    let k = c.loop-place.place in
    let total = quotient_of (to_z w128 c.loop-place.total-bits) d in
    let before = c.loop-place.invariant in
    let next = c.in-Some.next in
    let next_room : HasMargin next = c.in-Some.ensures.room in
    let n_is : to_z w128 (of_z w128 next) ≡ next = room_read next next_room in
    let after = c.next_weighed-place-in-Some in
    let none : AreNone start a x (k + 1) after.result = λ j from below. ap neg_ℚ (after.ensures.free j from below) ∙ nothing in
    let more : quotient_of next d ≡ partial start a x (k + 1) = partial_next start a x k total before.total (quotient_of next d) c.in-Some.ensures.value in
    let fits : AllFit start a x (k + 1) = fits_next start a x k total before.total before.fits c.in-Some.ensures.fits in
    record {
      within = after.ensures.within;
      room = subst HasMargin (sym n_is) next_room;
      total = ap (λ n. quotient_of n d) n_is ∙ more ∙ partial-skipped start a x (k + 1) after.result after.ensures.from none;
      fits = fits-skipped start a x (k + 1) after.result none fits;
    }

pub returns-clause-fits : goal.returns-clause-fits
returns-clause-fits c =
    let W = c.args.self.now in
    let d = W.denominator in
    let a : ℕ → ℚ = λ k. neg_ℚ (cut_weight W.leaf.cuts.now W.leaf.mult.now k) in
    let x : ℕ → ℚ = λ k. cut_coefficient W.leaf.cuts.now k c.args.col in
    let s_is : to_z w128 (of_z w128 c.args.start) ≡ c.args.start = room_read c.args.start c.requires.start in
    let past = c.loop-place-test.false in
    let all : c.loop-place.place ≡ length W.leaf.cuts.now = let within = c.loop-place.invariant.within in omega (arith, past, within) in
    subst (λ s. AllFit (quotient_of s d) a x (length W.leaf.cuts.now)) s_is (subst (AllFit (quotient_of (to_z w128 (of_z w128 c.args.start)) d) a x) all c.loop-place.invariant.fits)

pub returns-clause-value : goal.returns-clause-value
returns-clause-value c =
    let W = c.args.self.now in
    let d = W.denominator in
    let a : ℕ → ℚ = λ k. neg_ℚ (cut_weight W.leaf.cuts.now W.leaf.mult.now k) in
    let x : ℕ → ℚ = λ k. cut_coefficient W.leaf.cuts.now k c.args.col in
    let s_is : to_z w128 (of_z w128 c.args.start) ≡ c.args.start = room_read c.args.start c.requires.start in
    let past = c.loop-place-test.false in
    let all : c.loop-place.place ≡ length W.leaf.cuts.now = let within = c.loop-place.invariant.within in omega (arith, past, within) in
    c.loop-place.invariant.total ∙ (λ i. partial (quotient_of (s_is i) d) a x (all i))
