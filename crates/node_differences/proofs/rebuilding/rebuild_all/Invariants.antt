use Rattle.node_differences.specs.private.Rebuilding.{Rebuilding}
use Rattle.node_differences.proofs.rebuilding.rebuild_all.Given as goal

abbrev pub invariant-loop-place : goal.invariant-loop-place
invariant-loop-place l = Rebuilding l.initial.nodes l.nodes l.due.items l.place
