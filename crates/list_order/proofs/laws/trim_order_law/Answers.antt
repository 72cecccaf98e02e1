use Rattle.list_order.proofs.EditOrder.{trim-order}
use Rattle.list_order.proofs.laws.trim_order_law.Goals as goal

pub returns : goal.returns
returns c = trim-order
