use Rattle.basic_solution.specs.KeptCosts.{AreKeptCosts}
use Rattle.dual_simplex.proofs.entering.keep_costs.Given as goal

abbrev pub invariant-loop-place : goal.invariant-loop-place
invariant-loop-place l = AreKeptCosts l.state l.denominator l.kept
