use Rattle.std.proofs.Common.{rules, ◌≡◌, ◌∙◌, arith, sym, subst, pos}
use Rattle.frac128.specs.Rational.{int, ◌+ℚ◌, ◌*ℚ◌}
use Rattle.checked_sum.specs.Steps.{StepFits}
use Rattle.checked_sum.proofs.StepLaws.{skip_number, partial_none, partial_next, fits_next}
use Rattle.checked_sum.proofs.sum.checked_sum.Goals as goal

pub loop-index-init : goal.loop-index-init
loop-index-init g c =
    record {
      total = partial_none c.args.start.now (g.T.Terms.factor c.args.terms.now) (g.T.Terms.number c.args.terms.now);
      fits = λ k below. absurd (omega arith);
    }

pub loop-index-preserved-then-is_zero : goal.loop-index-preserved-then-is_zero
loop-index-preserved-then-is_zero g c =
    let start = c.args.start.now in
    let factor = g.T.Terms.factor c.args.terms.now in
    let number = g.T.Terms.number c.args.terms.now in
    let k = c.loop-index.index in
    let total = c.loop-index.total in
    let before = c.loop-index.invariant in
    let zero : c.number-number.result ≡ int (pos 0) = search rules in
    let skip = skip_number total (factor k) (number k) (sym c.number-number.ensures ∙ zero) in
    record {
      total = partial_next start factor number k total before.total total skip.1;
      fits = fits_next start factor number k total before.total before.fits skip.0;
    }

pub loop-index-preserved : goal.loop-index-preserved
loop-index-preserved g c =
    let start = c.args.start.now in
    let factor = g.T.Terms.factor c.args.terms.now in
    let number = g.T.Terms.number c.args.terms.now in
    let k = c.loop-index.index in
    let total = c.loop-index.total in
    let before = c.loop-index.invariant in
    record {
      total = partial_next start factor number k total before.total c.in-Ok.next (c.in-Ok.ensures.1 ∙ (λ i. total +ℚ c.factor.ensures i *ℚ c.number-number.ensures i));
      fits = fits_next start factor number k total before.total before.fits (subst (λ P. P) (λ i. StepFits total (c.factor.ensures i) (c.number-number.ensures i)) c.in-Ok.ensures.0);
    }
