use Rattle.front_commands.proofs.CauseLemmas.{fronts-lawful}
use Rattle.front_commands.proofs.laws.fronts_law.Goals as goal

pub returns : goal.returns
returns c = fronts-lawful
