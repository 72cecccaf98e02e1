use Rattle.search_gaps.proofs.FirstOpen.{first_open}
use Rattle.search_gaps.proofs.laws.first_open_law.Goals as goal

pub returns : goal.returns
returns c = first_open
