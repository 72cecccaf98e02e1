use Rattle.search_gaps.proofs.WithinBound.{within-bound}
use Rattle.search_gaps.proofs.laws.within_law.Goals as goal

pub returns : goal.returns
returns c = within-bound
