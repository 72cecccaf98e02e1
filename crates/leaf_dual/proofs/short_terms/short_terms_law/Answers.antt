use Rattle.leaf_dual.proofs.ShortTerms.{short_terms}
use Rattle.leaf_dual.proofs.short_terms.short_terms_law.Goals as goal

pub returns : goal.returns
returns c = short_terms
