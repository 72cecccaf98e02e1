use Rattle.std.proofs.Common.{ℕ, ◌<◌, ◌≤◌, ◌-◌, get_or}
use Rattle.table_entries.specs.private.NextEntries.{HasNoEntryBetween}
use Rattle.table_entries.proofs.same_rows.write_next_entries.Given as goal

abbrev pub invariant-loop-behind : goal.invariant-loop-behind
invariant-loop-behind l = record {
  at : HasNoEntryBetween l.columns l.numbers l.row (l.count - l.behind) l.at;
  written : (k : ℕ) → l.count - l.behind ≤ k → k < l.count → HasNoEntryBetween l.columns l.numbers l.row k (get_or l.nexts k 0);
}
