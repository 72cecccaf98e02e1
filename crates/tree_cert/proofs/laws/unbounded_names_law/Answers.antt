use Rattle.tree_cert.proofs.NamesLaws.{unbounded_words}
use Rattle.tree_cert.proofs.laws.unbounded_names_law.Goals as goal

pub returns : goal.returns
returns c = unbounded_words
