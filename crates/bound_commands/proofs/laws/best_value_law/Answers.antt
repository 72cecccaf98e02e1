use Rattle.bound_commands.proofs.CauseLemmas.{bounds-exact}
use Rattle.bound_commands.proofs.laws.best_value_law.Goals as goal

pub returns : goal.returns
returns c = bounds-exact
