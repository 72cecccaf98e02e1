use Rattle.std.proofs.Common.{take}
use Rattle.dual_bounds.specs.TreeBounds.{AreDerivedAgain}
use Rattle.dual_bounds.proofs.cuts.derived_again.Given as goal

abbrev pub invariant-loop-cut : goal.invariant-loop-cut
invariant-loop-cut l = AreDerivedAgain l.model (take l.cut-index l.cuts) l.again
