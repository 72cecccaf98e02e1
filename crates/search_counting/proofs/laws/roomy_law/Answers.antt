use Rattle.search_counting.proofs.FreshLemmas.{fresh-roomy}
use Rattle.search_counting.proofs.laws.roomy_law.Goals as goal

pub returns : goal.returns
returns c = fresh-roomy
