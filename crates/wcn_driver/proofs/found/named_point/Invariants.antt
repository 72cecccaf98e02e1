use Rattle.std.proofs.Common.{◌≡◌, take}
use Rattle.wcn_driver.proofs.NamedPoints.{named_numbers}
use Rattle.wcn_driver.proofs.found.named_point.Given as goal

abbrev pub invariant-loop-index : goal.invariant-loop-index
invariant-loop-index l = l.named ≡ take l.index (named_numbers l.model.cols l.point)
