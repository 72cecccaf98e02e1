use Rattle.search_parts.proofs.NearestZero.{nearest}
use Rattle.search_parts.proofs.laws.nearest_law.Goals as goal

pub returns : goal.returns
returns c = nearest
