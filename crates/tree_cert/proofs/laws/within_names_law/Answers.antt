use Rattle.tree_cert.proofs.NamesLaws.{within_words}
use Rattle.tree_cert.proofs.laws.within_names_law.Goals as goal

pub returns : goal.returns
returns c = within_words
