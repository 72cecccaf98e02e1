use Rattle.std.proofs.Common.{◌≢◌, ℕ, ◌<◌, None}
use Rattle.leaf_dual.specs.Dual.{multiplier, row_side}
use Rattle.leaf_dual.proofs.leaf.Leaf.lacks_row_side.Given as goal

abbrev pub invariant-loop-row : goal.invariant-loop-row
invariant-loop-row l = (i : ℕ) → i < l.row → row_side l.self.model.now (multiplier l.self.mult.now) i ≢ None
