use Rattle.search_counting.proofs.WorkLemmas.{open-work}
use Rattle.search_counting.proofs.laws.left_law.Goals as goal

pub returns : goal.returns
returns c = open-work
