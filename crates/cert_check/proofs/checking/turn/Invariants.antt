use Rattle.std.proofs.Common.{◌≡◌, ◌≤◌}
use Rattle.std.specs.Prelude.{All}
use Rattle.cert_check.specs.Walk.{after_leaf}
use Rattle.cert_check.specs.private.Walk.{CanTurn}
use Rattle.tight_regions.specs.Tight.{IsTrail, path_of_trail, depth_of, room}
use Rattle.cert_check.proofs.checking.turn.Given as goal

abbrev pub invariant-loop-trail : goal.invariant-loop-trail
invariant-loop-trail l = record {
  trail : IsTrail l.trail;
  turns : All CanTurn (path_of_trail l.trail);
  path : after_leaf (path_of_trail l.fn.trail) ≡ after_leaf (path_of_trail l.trail);
  within : depth_of l.trail ≤ depth_of l.fn.trail;
  room : room l.trail ≡ room l.fn.trail;
}

abbrev pub decreases-loop-trail : goal.decreases-loop-trail
decreases-loop-trail l = depth_of l.trail
