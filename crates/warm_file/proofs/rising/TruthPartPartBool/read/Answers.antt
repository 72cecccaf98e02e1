use Rattle.warm_file.proofs.Saying.{says-fault, ok-some, bad-none}
use Rattle.warm_file.proofs.rising.TruthPartPartBool.read.Goals as goal

pub returns-in-Some : goal.returns-in-Some
returns-in-Some c = ok-some 3 _ c.in-Some.truth c.in-Some.ensures

pub returns-in-None : goal.returns-in-None
returns-in-None c = says-fault 3 _ c.bad.result c.bad.ensures (bad-none 3 _ c.in-None.ensures)
