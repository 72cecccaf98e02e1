use Rattle.std.proofs.Common.{refl, ap, Some}
use Rattle.node_solve.proofs.working.place_of.Goals as goal

pub returns-in-Ok : goal.returns-in-Ok
returns-in-Ok c = (ap Some c.in-Ok.ensures.path, c.in-Ok.ensures.cuts, refl, refl)
