use Rattle.dual_simplex.proofs.FewStates.{ends}
use Rattle.dual_simplex.proofs.laws.end_law.Goals as goal

pub returns : goal.returns
returns c = λ s limit r after kept enough walked. ends s limit r after kept enough walked
