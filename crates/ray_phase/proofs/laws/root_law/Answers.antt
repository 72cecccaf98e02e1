use Rattle.ray_phase.proofs.RootLemmas.{root_basis_of}
use Rattle.ray_phase.proofs.laws.root_law.Goals as goal

pub returns : goal.returns
returns c = λ M basis h. root_basis_of M basis h
