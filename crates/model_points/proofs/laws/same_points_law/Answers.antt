use Rattle.model_points.proofs.SamePointsLemmas.{same_points}
use Rattle.model_points.proofs.laws.same_points_law.Goals as goal

pub returns : goal.returns
returns c = λ M. same_points M
