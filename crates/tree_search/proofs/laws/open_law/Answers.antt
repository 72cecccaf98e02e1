use Rattle.tree_search.proofs.RayLemmas.{ray-open}
use Rattle.tree_search.proofs.laws.open_law.Goals as goal

pub returns : goal.returns
returns c = λ F valid d ray x feasible path names inside mult q. ray-open F valid d ray x feasible path names inside mult q
