use Rattle.std.proofs.Common.{◌≡◌, take}
use Rattle.std.specs.Prelude.{map}
use Rattle.node_solve.specs.Places.{var_in_pool}
use Rattle.node_solve.proofs.places.vars_in_pool.Given as goal

abbrev pub invariant-loop-var : goal.invariant-loop-var
invariant-loop-var l = l.named ≡ map (var_in_pool l.places) (take l.var-index l.vars)
