use Rattle.search_counting.proofs.FreshLemmas.{fresh-small}
use Rattle.search_counting.proofs.laws.too_small_law.Goals as goal

pub returns : goal.returns
returns c = fresh-small
