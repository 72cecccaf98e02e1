use Rattle.std.proofs.Common.{ℕ, ◌≤◌, take}
use Rattle.leaf_dual.specs.Laws.{NamesNoCut}
use Rattle.leaf_dual.proofs.named.named_end.Given as goal

abbrev pub invariant-loop-name : goal.invariant-loop-name
invariant-loop-name l = (k : ℕ) → l.end ≤ k → NamesNoCut (take l.name-index l.mult) k
