use Rattle.dual_simplex.proofs.ListLawLemmas.{listed_all}
use Rattle.dual_simplex.proofs.list_laws.listed_law.Goals as goal

pub returns : goal.returns
returns c = λ s c y list are columns v within. listed_all s c y list are columns v within
