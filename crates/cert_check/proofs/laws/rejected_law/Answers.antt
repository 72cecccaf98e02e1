use Rattle.cert_check.proofs.RejectedLaws.{not_accepted}
use Rattle.cert_check.proofs.laws.rejected_law.Goals as goal

pub returns : goal.returns
returns c = not_accepted
