use Rattle.dual_bounds.proofs.ExactLemmas.{exact}
use Rattle.dual_bounds.proofs.laws.exact_law.Goals as goal

pub returns : goal.returns
returns c = exact
