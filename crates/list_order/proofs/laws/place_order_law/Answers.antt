use Rattle.list_order.proofs.TakenOrder.{place-order}
use Rattle.list_order.proofs.laws.place_order_law.Goals as goal

pub returns : goal.returns
returns c = place-order
