use Rattle.ray_phase.proofs.OneRayLemmas.{one_ray}
use Rattle.ray_phase.proofs.laws.one_ray_law.Goals as goal

pub returns : goal.returns
returns c = one_ray
