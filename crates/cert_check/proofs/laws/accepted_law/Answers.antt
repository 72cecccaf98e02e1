use Rattle.cert_check.proofs.ClosedTree.{accepted_claim}
use Rattle.cert_check.proofs.laws.accepted_law.Goals as goal

pub returns : goal.returns
returns c = accepted_claim
