use Rattle.basic_solution.proofs.SideLemmas.{under_decided, under_none}
use Rattle.basic_solution.proofs.sides.is_under.Goals as goal

pub returns-in-Some : goal.returns-in-Some
returns-in-Some c = under_decided c.args.low.now c.in-Some.bound c.args.value.now c.is_below.result c.in-Some.is c.is_below.ensures

pub returns-in-None : goal.returns-in-None
returns-in-None c = under_none c.args.low.now c.args.value.now c.in-None.is
