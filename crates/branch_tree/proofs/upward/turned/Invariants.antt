use Rattle.std.proofs.Common.{◌≡◌, ◌+◌, ◌≤◌, ◌++◌, length, reverse, vec_len, vec_capacity}
use Rattle.branch_tree.specs.private.Paths.{changes_of}
use Rattle.branch_tree.proofs.upward.turned.Given as goal

abbrev pub invariant-loop-turn : goal.invariant-loop-turn
invariant-loop-turn l = record {
  whole : l.path.items ++ reverse (changes_of l.turns.items) ≡ reverse (changes_of l.fn.gathered.items);
  room : vec_len l.path + length l.turns.items ≤ vec_capacity l.path;
}

abbrev pub decreases-loop-turn : goal.decreases-loop-turn
decreases-loop-turn l = length l.turns.items
