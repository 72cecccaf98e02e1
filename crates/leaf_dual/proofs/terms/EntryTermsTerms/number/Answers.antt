use Rattle.std.proofs.Common.{pos, sym, ap, ◌∙◌}
use Rattle.frac128.specs.Rational.{int}
use Rattle.lp_model.proofs.ElementLemmas.{of_element-get}
use Rattle.leaf_dual.proofs.terms.EntryTermsTerms.number.Goals as goal

pub returns : goal.returns
returns c =
    let e = c.index-self-index.result in
    sym (of_element-get (int (pos 0)) (λ d. d.1) c.args.self.now.entries.now c.args.index e c.requires c.index-self-index.is ∙ ap (λ d. d.1) c.index-self-index.is)
