use Rattle.std.proofs.Common.{◌≡◌, take}
use Rattle.tight_regions.specs.Tight.{IsTrail, path_of_trail}
use Rattle.branch_tree.proofs.visiting.enter.Given as goal

abbrev pub invariant-loop-trail : goal.invariant-loop-trail
invariant-loop-trail l = record { trail : IsTrail l.trail; front : take l.fn.above (path_of_trail l.trail) ≡ take l.fn.above (path_of_trail l.fn.trail) }

abbrev pub decreases-loop-trail : goal.decreases-loop-trail
decreases-loop-trail l = l.trail.depth
