use Rattle.row_tableau.specs.Variables.{numbers}
use Rattle.basic_solution.specs.Lists.{AreRising}
use Rattle.ray_phase.specs.Answers.{IsModelHigh}
use Rattle.ray_phase.proofs.lawful.high_variables.Given as goal

abbrev pub invariant-loop-variable : goal.invariant-loop-variable
invariant-loop-variable l = AreRising (IsModelHigh l.model l.state) l.variable (numbers l.state.tableau l.list)
