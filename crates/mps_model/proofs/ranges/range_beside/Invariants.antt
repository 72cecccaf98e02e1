use Rattle.std.proofs.Common.{◌≡◌, drop}
use Rattle.mps_model.specs.Meaning.{range_beside}
use Rattle.mps_model.proofs.ranges.range_beside.Given as goal

abbrev pub invariant-loop-item : goal.invariant-loop-item
invariant-loop-item l = range_beside l.name l.ranges ≡ range_beside l.name (drop l.item-index l.ranges)
