use Rattle.front_check.proofs.OneFrontVerdict.{one_front_verdict}
use Rattle.front_check.proofs.laws.one_front_verdict_law.Goals as goal

pub returns : goal.returns
returns c = one_front_verdict
