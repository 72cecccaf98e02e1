use Rattle.std.proofs.Common.{◌≡◌, take}
use Rattle.cert_check.specs.Accepted.{point_of}
use Rattle.cert_check.proofs.names.point.Given as goal

abbrev pub invariant-loop-col : goal.invariant-loop-col
invariant-loop-col l = l.numbers ≡ take l.col-index (point_of l.model l.named)
