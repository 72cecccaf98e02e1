use Rattle.front_commands.proofs.NameLemmas.{names-told}
use Rattle.front_commands.proofs.laws.part_names_law.Goals as goal

pub returns : goal.returns
returns c = names-told
