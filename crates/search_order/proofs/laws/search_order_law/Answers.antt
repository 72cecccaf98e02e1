use Rattle.search_order.proofs.SearchOrder.{search-order}
use Rattle.search_order.proofs.laws.search_order_law.Goals as goal

pub returns : goal.returns
returns c = search-order
