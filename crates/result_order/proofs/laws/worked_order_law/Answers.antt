use Rattle.result_order.proofs.WorkedOrder.{worked-order}
use Rattle.result_order.proofs.laws.worked_order_law.Goals as goal

pub returns : goal.returns
returns c = worked-order
