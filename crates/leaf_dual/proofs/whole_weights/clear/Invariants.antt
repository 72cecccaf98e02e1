use Rattle.std.proofs.Common.{◌≡◌, ℕ, ◌<◌, pos}
use Rattle.whole_sums.specs.Wholes.{whole_number_at}
use Rattle.leaf_dual.proofs.whole_weights.clear.Given as goal

abbrev pub invariant-loop-place : goal.invariant-loop-place
invariant-loop-place l = (k : ℕ) → k < l.place → whole_number_at l.numbers k ≡ pos 0
