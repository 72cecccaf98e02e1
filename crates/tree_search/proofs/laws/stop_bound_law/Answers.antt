use Rattle.tree_search.proofs.SearchLemmas.{stop-bound}
use Rattle.tree_search.proofs.laws.stop_bound_law.Goals as goal

pub returns : goal.returns
returns c = stop-bound
