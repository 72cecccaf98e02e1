use Rattle.search_counting.proofs.PointLemmas.{points-split}
use Rattle.search_counting.proofs.laws.split_law.Goals as goal

pub returns : goal.returns
returns c = points-split
