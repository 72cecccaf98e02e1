use Rattle.dual_simplex.proofs.OneStateLemmas.{separates_of}
use Rattle.dual_simplex.proofs.laws.parts_law.Goals as goal

pub returns : goal.returns
returns c = λ kind F path keeps. separates_of F path kind keeps
