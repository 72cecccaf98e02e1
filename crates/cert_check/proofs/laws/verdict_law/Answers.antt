use Rattle.cert_check.proofs.VerdictLaws.{accepted_verdict}
use Rattle.cert_check.proofs.laws.verdict_law.Goals as goal

pub returns : goal.returns
returns c = accepted_verdict
