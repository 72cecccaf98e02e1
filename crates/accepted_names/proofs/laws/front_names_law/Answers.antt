use Rattle.accepted_names.proofs.AcceptedNames.{front-words}
use Rattle.accepted_names.proofs.laws.front_names_law.Goals as goal

pub returns : goal.returns
returns c = front-words
