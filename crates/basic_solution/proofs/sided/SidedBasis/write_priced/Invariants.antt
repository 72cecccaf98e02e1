use Rattle.basic_solution.specs.Priced.{ArePricedTo}
use Rattle.basic_solution.proofs.sided.SidedBasis.write_priced.Given as goal

abbrev pub invariant-loop-row : goal.invariant-loop-row
invariant-loop-row l = record {
  priced : ArePricedTo l.self l.row l.rows l.numbers l.count;
}
