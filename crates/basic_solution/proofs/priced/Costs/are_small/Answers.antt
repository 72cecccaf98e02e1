use Rattle.std.proofs.Common.{subst}
use Rattle.basic_solution.specs.RowTotals.{AreSmallNumbers}
use Rattle.basic_solution.proofs.priced.Costs.are_small.Goals as goal

pub returns : goal.returns
returns c = λ t. subst AreSmallNumbers c.self.view_is (c.self.invariant.1.1 t)
