use Rattle.basic_solution.specs.KeptValues.{AreKeptValues}
use Rattle.dual_simplex.proofs.leaving.keep_values.Given as goal

abbrev pub invariant-loop-row : goal.invariant-loop-row
invariant-loop-row l = AreKeptValues l.state l.denominator l.kept
