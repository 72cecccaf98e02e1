use Rattle.std.proofs.Common.{arith}
use Rattle.tree_rows.proofs.counting.edit_second_cost.Goals as goal

pub returns-in-Ok : goal.returns-in-Ok
returns-in-Ok g c = omega (arith, c.in-Ok.ensures.second_cost, c.in-Ok.ensures.rises)
