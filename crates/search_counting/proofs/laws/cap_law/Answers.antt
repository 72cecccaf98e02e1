use Rattle.search_counting.proofs.CapLemmas.{work-cap}
use Rattle.search_counting.proofs.laws.cap_law.Goals as goal

pub returns : goal.returns
returns c = work-cap
