use Rattle.std.proofs.Common.{◌≡◌, ◌+◌, ◌≤◌, length}
use Rattle.node_differences.specs.Differences.{changed}
use Rattle.node_differences.proofs.StepLemmas.{joined}
use Rattle.node_differences.proofs.multipliers.changed.Given as goal

abbrev pub invariant-loop-next : goal.invariant-loop-next
invariant-loop-next l = record {
  whole : joined l.found (changed l.one l.place l.other) ≡ changed l.former 0 l.changes;
  passed : l.place + length l.other ≤ length l.changes;
}

abbrev pub decreases-loop-next : goal.decreases-loop-next
decreases-loop-next l = length l.one + length l.other
