use Rattle.node_solve.proofs.PoolLemmas.{pool_number}
use Rattle.node_solve.proofs.laws.pool_number_law.Goals as goal

pub returns : goal.returns
returns c = λ M pool cuts places at live path mult named v. pool_number M pool cuts places at live path mult named v
