use Rattle.ray_phase.proofs.FirstLemmas.{first}
use Rattle.ray_phase.proofs.laws.first_law.Goals as goal

pub returns : goal.returns
returns c = λ M basis dual relax same plain_kind keeps. first M basis dual relax same plain_kind keeps
