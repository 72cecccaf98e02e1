use Rattle.search_counting.proofs.PointLemmas.{points-some}
use Rattle.search_counting.proofs.laws.some_point_law.Goals as goal

pub returns : goal.returns
returns c = points-some
