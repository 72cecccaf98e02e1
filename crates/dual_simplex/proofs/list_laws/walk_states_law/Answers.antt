use Rattle.dual_simplex.proofs.ListLawLemmas.{never_back}
use Rattle.dual_simplex.proofs.list_laws.walk_states_law.Goals as goal

pub returns : goal.returns
returns c = λ n s after kept moves same. never_back n s after kept moves same
