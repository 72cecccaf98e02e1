use Rattle.search_counting.proofs.LowerLemmas.{lowers}
use Rattle.search_counting.proofs.laws.lowers_law.Goals as goal

pub returns : goal.returns
returns c = lowers
