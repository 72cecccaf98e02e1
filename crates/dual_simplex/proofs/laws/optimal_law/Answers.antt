use Rattle.dual_simplex.proofs.WalkLemmas.{optimal}
use Rattle.dual_simplex.proofs.laws.optimal_law.Goals as goal

pub returns : goal.returns
returns c = λ s kept uncrossed inside. optimal s kept uncrossed inside
