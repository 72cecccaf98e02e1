use Rattle.dual_simplex.specs.private.Answers.{AreInside}
use Rattle.dual_simplex.proofs.leaving.first_out.Given as goal

abbrev pub invariant-loop-variable : goal.invariant-loop-variable
invariant-loop-variable l = AreInside l.state l.variable
