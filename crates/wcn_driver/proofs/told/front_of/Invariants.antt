use Rattle.std.proofs.Common.{◌≡◌, take, map}
use Rattle.wcn_driver.specs.private.Told.{shown_outcome}
use Rattle.wcn_driver.proofs.told.front_of.Given as goal

abbrev pub invariant-loop-item : goal.invariant-loop-item
invariant-loop-item l = l.front ≡ take l.item-index (map shown_outcome l.found)
