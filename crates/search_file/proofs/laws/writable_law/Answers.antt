use Rattle.search_file.proofs.OrderLaws.{writable}
use Rattle.search_file.proofs.laws.writable_law.Goals as goal

pub returns : goal.returns
returns c = writable
