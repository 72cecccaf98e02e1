use Rattle.std.proofs.Common.{◌∙◌, sym, subst}
use Rattle.frac128.specs.Rational.{◌*ℚ◌}
use Rattle.whole_sums.proofs.ReadLemmas.{short_read, denominator_again}
use Rattle.kept_totals.specs.Forms.{Product, pair_product}
use Rattle.kept_totals.specs.Short.{IsShortFraction}
use Rattle.kept_totals.proofs.ShortLemmas.{found}
use Rattle.kept_totals.proofs.term.Term.is_short_over.Goals as goal

pub short_product-requires-clause-denominator : goal.short_product-requires-clause-denominator
short_product-requires-clause-denominator c = denominator_again c.args.denominator c.requires

pub returns-in-Some : goal.returns-in-Some
returns-in-Some c = λ t.
    let w = pair_product c.in-Some.pair in
    subst (λ (p : Product). IsShortFraction c.args.denominator (p.factor *ℚ p.number)) (sym c.in-Some.ensures.value)
    (subst (λ d. IsShortFraction d (w.factor *ℚ w.number)) (short_read c.args.denominator c.requires.short) (found _ _ c.short_product.result (sym c.is_some.ensures ∙ t) c.short_product.ensures))
