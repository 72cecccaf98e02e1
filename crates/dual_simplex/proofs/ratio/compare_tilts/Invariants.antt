use Rattle.dual_simplex.specs.Answers.{AreSameParts}
use Rattle.dual_simplex.proofs.ratio.compare_tilts.Given as goal

abbrev pub invariant-loop-part : goal.invariant-loop-part
invariant-loop-part l = AreSameParts l.state l.row l.side l.first l.second l.part
