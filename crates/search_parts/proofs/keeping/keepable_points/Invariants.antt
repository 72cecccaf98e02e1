use Rattle.std.proofs.Common.{take}
use Rattle.search_parts.specs.EditedPoints.{AreValued}
use Rattle.search_parts.proofs.keeping.keepable_points.Given as goal

abbrev pub invariant-loop-point : goal.invariant-loop-point
invariant-loop-point l = AreValued l.model (take l.point-index l.points) l.kept.points.items l.kept.values.items
