use Rattle.std.proofs.Common.{refl}
use Rattle.cert_check.proofs.judging.judge_difference.Goals as goal

pub returns-in-Ok : goal.returns-in-Ok
returns-in-Ok c = c.in-Ok.ensures.0

pub returns-in-Err : goal.returns-in-Err
returns-in-Err c = (c.in-Err.ensures, refl)
