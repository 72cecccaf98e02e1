use Rattle.bound_commands.proofs.CauseLemmas.{bounds-lawful}
use Rattle.bound_commands.proofs.laws.bounds_law.Goals as goal

pub returns : goal.returns
returns c = bounds-lawful
