use Rattle.dual_simplex.proofs.WalkLemmas.{rises}
use Rattle.dual_simplex.proofs.laws.walk_law.Goals as goal

pub returns : goal.returns
returns c = λ n s after kept moves. rises n s after kept moves
