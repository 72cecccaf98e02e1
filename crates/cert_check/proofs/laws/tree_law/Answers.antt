use Rattle.cert_check.proofs.RejectedLaws.{tree_judged}
use Rattle.cert_check.proofs.laws.tree_law.Goals as goal

pub returns : goal.returns
returns c = tree_judged
