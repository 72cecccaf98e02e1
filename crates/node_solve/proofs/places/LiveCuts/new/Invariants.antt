use Rattle.std.proofs.Common.{◌≡◌, take}
use Rattle.node_solve.specs.Places.{live_cuts, live_places}
use Rattle.node_solve.proofs.places.LiveCuts.new.Given as goal

abbrev pub invariant-loop-place : goal.invariant-loop-place
invariant-loop-place l = record {
  cuts : l.cuts.items ≡ live_cuts 200 (take l.place l.pool);
  places : l.places.items ≡ live_places 200 0 (take l.place l.pool);
}
