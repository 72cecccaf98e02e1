use Rattle.std.proofs.Common.{Ok}
use Rattle.dual_simplex.specs.private.BestPlaces.{IsBestBelow}
use Rattle.dual_simplex.proofs.entering.entering.Given as goal

abbrev pub invariant-loop-place : goal.invariant-loop-place
invariant-loop-place l = IsBestBelow l.state l.row l.side l.place (Ok l.found)
