use Rattle.node_solve.proofs.FirstLemmas.{first_cuts}
use Rattle.node_solve.proofs.laws.first_cuts_law.Goals as goal

pub returns : goal.returns
returns c = λ M lawful path names first root cuts pool live relax is. first_cuts M lawful path names first root cuts pool live relax is
