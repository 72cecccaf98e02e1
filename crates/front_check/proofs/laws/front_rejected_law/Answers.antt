use Rattle.front_check.proofs.FrontRejections.{rejected_front}
use Rattle.front_check.proofs.laws.front_rejected_law.Goals as goal

pub returns : goal.returns
returns c = rejected_front
