use Rattle.model_points.proofs.UnboundedLemmas.{unbounded}
use Rattle.model_points.proofs.laws.unbounded_law.Goals as goal

pub returns : goal.returns
returns c = λ M x d feasible ray. unbounded M x d feasible ray
