use Rattle.list_order.proofs.TakenOrder.{pool-order}
use Rattle.list_order.proofs.laws.pool_order_law.Goals as goal

pub returns : goal.returns
returns c = pool-order
