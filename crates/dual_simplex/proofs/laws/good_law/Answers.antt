use Rattle.dual_simplex.proofs.OneStateLemmas.{good_of}
use Rattle.dual_simplex.proofs.laws.good_law.Goals as goal

pub returns : goal.returns
returns c = λ relax s is kept. good_of relax s is kept
