use Rattle.dual_simplex.proofs.RegionSideLemmas.{keeps_free}
use Rattle.dual_simplex.proofs.laws.keeps_free_law.Goals as goal

pub returns : goal.returns
returns c = λ M path h. keeps_free M path h
