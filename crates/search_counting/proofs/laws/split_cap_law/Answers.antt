use Rattle.search_counting.proofs.CapLemmas.{splits-cap}
use Rattle.search_counting.proofs.laws.split_cap_law.Goals as goal

pub returns : goal.returns
returns c = splits-cap
