use Rattle.row_tableau.specs.Variables.{numbers}
use Rattle.basic_solution.specs.Lists.{AreRising, StandsHigh}
use Rattle.basic_solution.proofs.sided.SidedBasis.high_variables.Given as goal

abbrev pub invariant-loop-variable : goal.invariant-loop-variable
invariant-loop-variable l = AreRising (StandsHigh l.self) l.variable (numbers l.self.tableau l.list)
