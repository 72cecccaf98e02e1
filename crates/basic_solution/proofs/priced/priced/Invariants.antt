use Rattle.std.proofs.Common.{◌≤◌, length}
use Rattle.basic_solution.specs.RowTotals.{AreFreeFrom}
use Rattle.basic_solution.proofs.priced.priced.Given as goal

abbrev pub invariant-loop-end : goal.invariant-loop-end
invariant-loop-end l = record {
  within : l.end ≤ length l.list;
  free : AreFreeFrom l.list l.end;
}

abbrev pub decreases-loop-end : goal.decreases-loop-end
decreases-loop-end l = l.end
