use Rattle.std.proofs.Common.{◌≡◌}
use Rattle.node_solve.specs.private.Places.{places_from}
use Rattle.node_solve.proofs.cuts.own_places.Given as goal

abbrev pub invariant-loop-place : goal.invariant-loop-place
invariant-loop-place l = l.places.items ≡ places_from 0 l.place
