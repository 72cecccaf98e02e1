use Rattle.result_order.proofs.CutOrder.{cut-order}
use Rattle.result_order.proofs.laws.cut_order_law.Goals as goal

pub returns : goal.returns
returns c = cut-order
