use Rattle.std.proofs.Common.{◌≡◌, take}
use Rattle.node_solve.specs.Places.{mult_in_pool}
use Rattle.node_solve.proofs.places.mult_in_pool.Given as goal

abbrev pub invariant-loop-var : goal.invariant-loop-var
invariant-loop-var l = l.named ≡ mult_in_pool l.places (take l.var-index l.mult)
