use Rattle.front_commands.proofs.CauseLemmas.{fronts-complete}
use Rattle.front_commands.proofs.laws.front_complete_law.Goals as goal

pub returns : goal.returns
returns c = fronts-complete
