use Rattle.bound_commands.proofs.CauseLemmas.{bounds-unchanged}
use Rattle.bound_commands.proofs.laws.unchanged_law.Goals as goal

pub returns : goal.returns
returns c = bounds-unchanged
