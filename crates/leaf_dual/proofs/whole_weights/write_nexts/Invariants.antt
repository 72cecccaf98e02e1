use Rattle.std.proofs.Common.{ℕ, ◌<◌, ◌≤◌, ◌-◌, get_or}
use Rattle.leaf_dual.specs.Wholes.{IsNextOf}
use Rattle.leaf_dual.proofs.whole_weights.write_nexts.Given as goal

abbrev pub invariant-loop-behind : goal.invariant-loop-behind
invariant-loop-behind l = record {
  at : IsNextOf l.numbers (l.count - l.behind) l.at;
  written : (k : ℕ) → l.count - l.behind ≤ k → k < l.count → IsNextOf l.numbers k (get_or l.next k 0);
}
