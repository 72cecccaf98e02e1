use Rattle.row_tableau.specs.Answers.{IsBasic}
use Rattle.row_tableau.specs.Variables.{numbers}
use Rattle.basic_solution.specs.Lists.{AreRising}
use Rattle.basic_solution.proofs.sided.SidedBasis.basic_variables.Given as goal

abbrev pub invariant-loop-variable : goal.invariant-loop-variable
invariant-loop-variable l = AreRising (IsBasic l.self.tableau) l.variable (numbers l.self.tableau l.list)
