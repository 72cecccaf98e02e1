use Rattle.search_file.proofs.OrderLaws.{stated-order}
use Rattle.search_file.proofs.laws.stated_order_law.Goals as goal

pub returns : goal.returns
returns c = stated-order
