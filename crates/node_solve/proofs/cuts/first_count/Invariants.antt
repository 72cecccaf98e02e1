use Rattle.std.proofs.Common.{take}
use Rattle.node_solve.specs.Laws.{AreAllLive}
use Rattle.node_solve.proofs.cuts.first_count.Given as goal

abbrev pub invariant-loop-place : goal.invariant-loop-place
invariant-loop-place l = AreAllLive (take l.place l.rows)
