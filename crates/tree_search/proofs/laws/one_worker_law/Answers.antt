use Rattle.tree_search.proofs.AloneLemmas.{one-worker}
use Rattle.tree_search.proofs.laws.one_worker_law.Goals as goal

pub returns : goal.returns
returns c = one-worker
