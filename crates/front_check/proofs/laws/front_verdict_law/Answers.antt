use Rattle.front_check.proofs.FrontVerdicts.{accepted_verdict}
use Rattle.front_check.proofs.laws.front_verdict_law.Goals as goal

pub returns : goal.returns
returns c = accepted_verdict
