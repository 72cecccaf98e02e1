use Rattle.basic_solution.specs.Standing.{AreStandingTo, AreStandingNumbers}
use Rattle.basic_solution.proofs.sided.SidedBasis.write_standing.Given as goal

abbrev pub invariant-loop-variable : goal.invariant-loop-variable
invariant-loop-variable l = record {
  places : AreStandingTo l.self l.variable l.places l.count;
  numbers : AreStandingNumbers l.self l.places l.numbers l.count;
}
