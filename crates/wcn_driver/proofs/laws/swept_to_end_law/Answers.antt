use Rattle.wcn_driver.proofs.SweptToEnd.{swept_to_end}
use Rattle.wcn_driver.proofs.laws.swept_to_end_law.Goals as goal

pub returns : goal.returns
returns g c = λ solver. swept_to_end (g.S.Solver.stops solver)
