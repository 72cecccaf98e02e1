use Rattle.std.proofs.Common.{sym, ap, ◌∙◌}
use Rattle.frac128.specs.Rational.{neg_ℚ}
use Rattle.lp_model.proofs.ElementLemmas.{of_element-get}
use Rattle.leaf_dual.specs.Dual.{multiplier}
use Rattle.leaf_dual.proofs.terms.EntryTermsTerms.factor.Goals as goal

pub returns : goal.returns
returns c =
    let e = c.index-self-index.result in
    let row = of_element-get 0 (λ d. d.0.0) c.args.self.now.entries.now c.args.index e c.requires c.index-self-index.is ∙ ap (λ d. d.0.0) c.index-self-index.is in
    c.neg.ensures ∙ ap neg_ℚ c.multiplier.ensures ∙ ap (λ r. neg_ℚ (multiplier c.args.self.now.mult.now r)) (sym row)
