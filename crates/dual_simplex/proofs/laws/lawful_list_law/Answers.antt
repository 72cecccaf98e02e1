use Rattle.dual_simplex.proofs.OneStateLemmas.{lawful_list}
use Rattle.dual_simplex.proofs.laws.lawful_list_law.Goals as goal

pub returns : goal.returns
returns c = λ relax list st good at. lawful_list relax list st good at
