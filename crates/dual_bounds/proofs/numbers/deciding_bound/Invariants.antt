use Rattle.std.proofs.Common.{◌≡◌, drop}
use Rattle.dual_bounds.specs.TreeBounds.{deciding_bound}
use Rattle.dual_bounds.proofs.numbers.deciding_bound.Given as goal

abbrev pub invariant-loop-place : goal.invariant-loop-place
invariant-loop-place l = deciding_bound 0 l.numbers ≡ deciding_bound l.place (drop l.place l.numbers)
