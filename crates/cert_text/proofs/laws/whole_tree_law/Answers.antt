use Rattle.cert_text.proofs.DueLemmas.{whole_decides}
use Rattle.cert_text.proofs.laws.whole_tree_law.Goals as goal

pub returns : goal.returns
returns c = whole_decides
