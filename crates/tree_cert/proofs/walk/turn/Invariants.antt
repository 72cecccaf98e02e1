use Rattle.std.proofs.Common.{◌≡◌}
use Rattle.cert_check.specs.Walk.{after_leaf}
use Rattle.tight_regions.specs.Tight.{IsTrail, path_of_trail, depth_of}
use Rattle.tree_cert.specs.private.Walked.{HasTurns}
use Rattle.tree_cert.proofs.walk.turn.Given as goal

abbrev pub invariant-loop-trail : goal.invariant-loop-trail
invariant-loop-trail l = record {
  trail : IsTrail l.trail;
  turns : HasTurns (path_of_trail l.trail);
  path : after_leaf (path_of_trail l.fn.trail) ≡ after_leaf (path_of_trail l.trail);
}

abbrev pub decreases-loop-trail : goal.decreases-loop-trail
decreases-loop-trail l = depth_of l.trail
