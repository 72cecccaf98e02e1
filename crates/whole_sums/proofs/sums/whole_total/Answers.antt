use Rattle.std.proofs.Common.{sym, subst, ◌∙◌, ◌≡◌, ◌+ℤ◌, ◌*ℤ◌, arith, below_more, to_z, of_z, w64}
use Rattle.std.specs.Int.{w128}
use Rattle.frac128.specs.LowestTerms.{quotient_of}
use Rattle.checked_sum.specs.Steps.{StepFitsAt, partial}
use Rattle.checked_sum.proofs.StepLaws.{partial_none}
use Rattle.whole_sums.specs.Wholes.{IsWholeTerm, HasMargin}
use Rattle.whole_sums.proofs.ReadLemmas.{short_read, short_again, room_read, room_again}
use Rattle.whole_sums.proofs.SumLemmas.{total_more, fits_more_over}
use Rattle.whole_sums.proofs.sums.whole_total.Goals as goal

pub loop-index-init : goal.loop-index-init
loop-index-init g c =
    let t = c.args.terms.now in
    record {
      room = room_again c.args.start c.requires.start;
      total = partial_none (quotient_of (to_z w128 (of_z w128 c.args.start)) (g.T.WholeTerms.denominator t)) (g.T.WholeTerms.factor t) (g.T.WholeTerms.number t);
      fits = λ k below. absurd (omega arith);
      holds = λ k below. absurd (omega arith);
    }

pub with_product-requires-clause-factor : goal.with_product-requires-clause-factor
with_product-requires-clause-factor g c = short_again c.in-Some.term.factor c.in-Some.ensures.value.factor_short

pub with_product-requires-clause-number : goal.with_product-requires-clause-number
with_product-requires-clause-number g c = short_again c.in-Some.term.number c.in-Some.ensures.value.number_short

pub loop-index-preserved : goal.loop-index-preserved
loop-index-preserved g c =
    let t = c.args.terms.now in
    let d = g.T.WholeTerms.denominator t in
    let start = quotient_of (to_z w128 (of_z w128 c.args.start)) d in
    let factor = g.T.WholeTerms.factor t in
    let number = g.T.WholeTerms.number t in
    let k = c.loop-index.index in
    let before = c.loop-index.invariant in
    let total = to_z w128 c.loop-index.total-bits in
    let f = c.in-Some.term.factor in
    let n = c.in-Some.term.number in
    let term : IsWholeTerm d (factor k) (number k) f n = c.in-Some.ensures.value in
    let f_is : to_z w64 (of_z w64 f) ≡ f = short_read f term.factor_short in
    let n_is : to_z w64 (of_z w64 n) ≡ n = short_read n term.number_short in
    let next' = to_z w128 (of_z w128 c.in-Some-with_product.next) in
    let room : HasMargin c.in-Some-with_product.next = c.in-Some-with_product.ensures.room in
    let same : next' ≡ c.in-Some-with_product.next = room_read c.in-Some-with_product.next room in
    let next_is : next' ≡ total +ℤ f *ℤ n = same ∙ c.in-Some-with_product.ensures.value ∙ (λ i. total +ℤ f_is i *ℤ n_is i) in
    let next_room : HasMargin next' = subst HasMargin (sym same) room in
    record {
      room = next_room;
      total = total_more start factor number k d total c.requires.denominator before.room f n term next' next_is next_room before.total;
      fits = fits_more_over start factor number k d total c.requires.denominator before.room f n term next' next_is next_room before.total before.fits;
      holds = below_more (g.T.WholeTerms.holds t) k before.holds c.in-Some.ensures.holds;
    }

pub returns-clause-fits : goal.returns-clause-fits
returns-clause-fits g c = λ k q.
    let t = c.args.terms.now in
    let s_is : to_z w128 (of_z w128 c.args.start) ≡ c.args.start = room_read c.args.start c.requires.start in
    let past = c.loop-index-test.false in
    let count = c.count-index-end.ensures in
    subst (λ s. StepFitsAt (quotient_of s (g.T.WholeTerms.denominator t)) (g.T.WholeTerms.factor t) (g.T.WholeTerms.number t) k) s_is (c.loop-index.invariant.fits k (omega (arith, q, past, count)))

pub returns-clause-value : goal.returns-clause-value
returns-clause-value g c =
    let t = c.args.terms.now in
    let s_is : to_z w128 (of_z w128 c.args.start) ≡ c.args.start = room_read c.args.start c.requires.start in
    let past = c.loop-index-test.false in
    let within = c.loop-index.auto.index-end in
    let count = c.count-index-end.ensures in
    let all : c.loop-index.index ≡ g.T.WholeTerms.count t = omega (arith, past, within, count) in
    c.loop-index.invariant.total ∙ (λ i. partial (quotient_of (s_is i) (g.T.WholeTerms.denominator t)) (g.T.WholeTerms.factor t) (g.T.WholeTerms.number t) (all i))

pub returns-clause-holds : goal.returns-clause-holds
returns-clause-holds g c = λ k q.
    let past = c.loop-index-test.false in
    let count = c.count-index-end.ensures in
    c.loop-index.invariant.holds k (omega (arith, q, past, count))
