use Rattle.std.proofs.Common.{arith, subst, below_more, to_z, of_z, w64}
use Rattle.frac128.specs.Rational.{◌*ℚ◌}
use Rattle.whole_sums.proofs.ReadLemmas.{short_read, denominator_again}
use Rattle.kept_totals.specs.Forms.{Product}
use Rattle.kept_totals.specs.Short.{IsShortFraction}
use Rattle.kept_totals.proofs.walk.are_short.Goals as goal

pub loop-index-init : goal.loop-index-init
loop-index-init g c = record { there = λ k below. absurd (omega arith); short = λ k below. absurd (omega arith) }

pub is_short_over-requires : goal.is_short_over-requires
is_short_over-requires g c = denominator_again c.args.denominator c.requires.denominator

pub loop-index-preserved : goal.loop-index-preserved
loop-index-preserved g c =
    let is = c.in-Some.ensures in
    let d = to_z w64 (of_z w64 c.args.denominator) in
    record {
      there = below_more _ _ c.loop-index.invariant.there is.0;
      short = below_more _ _ c.loop-index.invariant.short (subst (λ (p : Product). IsShortFraction d (p.factor *ℚ p.number)) is.1 (c.is_short_over.ensures c.if-not-is_short_over.false));
    }

pub returns-clause-there : goal.returns-clause-there
returns-clause-there g c = λ t k below. let past = c.loop-index-test.false in let n = c.count-count.ensures in c.loop-index.invariant.there k (omega (arith, below, past, n))

pub returns-clause-short : goal.returns-clause-short
returns-clause-short g c = λ t k below.
    let past = c.loop-index-test.false in
    let n = c.count-count.ensures in
    let T = c.args.terms.now in
    subst (λ d. IsShortFraction d (g.T.PartialTerms.factor T k *ℚ g.T.PartialTerms.number T k)) (short_read c.args.denominator c.requires.denominator.short) (c.loop-index.invariant.short k (omega (arith, below, past, n)))
