use Rattle.basic_solution.proofs.SideLemmas.{over_decided, over_none}
use Rattle.basic_solution.proofs.sides.is_over.Goals as goal

pub returns-in-Some : goal.returns-in-Some
returns-in-Some c = over_decided c.args.high.now c.in-Some.bound c.args.value.now c.is_below.result c.in-Some.is c.is_below.ensures

pub returns-in-None : goal.returns-in-None
returns-in-None c = over_none c.args.high.now c.args.value.now c.in-None.is
