use Rattle.accepted_names.proofs.AcceptedNames.{accepted-words}
use Rattle.accepted_names.proofs.laws.accepted_names_law.Goals as goal

pub returns : goal.returns
returns c = accepted-words
