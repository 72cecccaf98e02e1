use Rattle.dual_simplex.proofs.FewStates.{few_moves}
use Rattle.dual_simplex.proofs.laws.few_moves_law.Goals as goal

pub returns : goal.returns
returns c = λ n s after kept moves. few_moves s kept n after moves
