use Rattle.list_order.proofs.EditOrder.{edit-order}
use Rattle.list_order.proofs.laws.edit_order_law.Goals as goal

pub returns : goal.returns
returns c = edit-order
