use Rattle.std.proofs.Common.{◌≤◌, ◌-◌, length, vec_capacity}
use Rattle.table_entries.proofs.table_entries.fill.Given as goal

abbrev pub invariant-loop-fractions : goal.invariant-loop-fractions
invariant-loop-fractions l = record {
  within : length l.fractions.items ≤ l.count;
  room : l.count ≤ vec_capacity l.fractions;
}

abbrev pub decreases-loop-fractions : goal.decreases-loop-fractions
decreases-loop-fractions l = l.count - length l.fractions.items
