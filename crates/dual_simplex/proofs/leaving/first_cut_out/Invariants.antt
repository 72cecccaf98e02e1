use Rattle.dual_simplex.specs.private.Answers.{AreInside}
use Rattle.dual_simplex.proofs.leaving.first_cut_out.Given as goal

abbrev pub invariant-loop-cut : goal.invariant-loop-cut
invariant-loop-cut l = AreInside l.state l.cut
