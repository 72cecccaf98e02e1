use Rattle.model_points.proofs.WithinRegionLemmas.{within_bounds, inside}
use Rattle.model_points.proofs.laws.in_region_law.Goals as goal

pub returns : goal.returns
returns c = λ M path x names within. (within_bounds M path x within, inside M path x within names)
