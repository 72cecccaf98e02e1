use Rattle.dual_simplex.proofs.ContinueLemmas.{continues}
use Rattle.dual_simplex.proofs.laws.continues_law.Goals as goal

pub returns : goal.returns
returns c = λ M path. continues M path
