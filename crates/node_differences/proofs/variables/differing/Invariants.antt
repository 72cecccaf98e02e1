use Rattle.std.proofs.Common.{◌≡◌, ◌++◌, ◌+◌, length}
use Rattle.node_differences.specs.Differences.{differing}
use Rattle.node_differences.proofs.variables.differing.Given as goal

abbrev pub invariant-loop-next : goal.invariant-loop-next
invariant-loop-next l = l.found ++ differing l.one l.other ≡ differing l.first l.second

abbrev pub decreases-loop-next : goal.decreases-loop-next
decreases-loop-next l = length l.one + length l.other
