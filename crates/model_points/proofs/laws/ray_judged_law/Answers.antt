use Rattle.model_points.proofs.RayLemmas.{judged_rightly}
use Rattle.model_points.proofs.laws.ray_judged_law.Goals as goal

pub returns : goal.returns
returns c = λ M d. judged_rightly M d
