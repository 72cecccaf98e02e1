use Rattle.std.proofs.Common.{◌≡◌, ◌^◌, ◌-◌, min, take}
use Rattle.search_counting.specs.Work.{whole_points_of}
use Rattle.search_counting.proofs.counting.whole_points_of.Given as goal

abbrev pub invariant-loop-column : goal.invariant-loop-column
invariant-loop-column l = l.points ≡ min (whole_points_of (take l.column-index l.columns)) (2 ^ 64 - 1)
