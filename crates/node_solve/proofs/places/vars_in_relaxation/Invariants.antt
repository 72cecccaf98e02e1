use Rattle.std.proofs.Common.{◌≡◌, take}
use Rattle.std.specs.Prelude.{map}
use Rattle.node_solve.specs.Places.{var_in_relaxation}
use Rattle.node_solve.proofs.places.vars_in_relaxation.Given as goal

abbrev pub invariant-loop-var : goal.invariant-loop-var
invariant-loop-var l = l.named ≡ map (var_in_relaxation l.places) (take l.var-index l.vars)
