use Rattle.std.proofs.Common.{◌≡◌, ◌++◌, ◌+◌, length}
use Rattle.node_differences.specs.Differences.{difference}
use Rattle.node_differences.proofs.multipliers.difference.Given as goal

abbrev pub invariant-loop-next : goal.invariant-loop-next
invariant-loop-next l = l.found ++ difference l.one l.other ≡ difference l.former l.own

abbrev pub decreases-loop-next : goal.decreases-loop-next
decreases-loop-next l = length l.one + length l.other
