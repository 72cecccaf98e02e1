use Rattle.tree_cert.proofs.NamesLaws.{certificate_words}
use Rattle.tree_cert.proofs.laws.names_law.Goals as goal

pub returns : goal.returns
returns c = certificate_words
