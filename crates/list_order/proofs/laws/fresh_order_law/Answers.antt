use Rattle.list_order.proofs.TakenOrder.{fresh-order}
use Rattle.list_order.proofs.laws.fresh_order_law.Goals as goal

pub returns : goal.returns
returns c = fresh-order
