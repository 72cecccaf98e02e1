use Rattle.std.proofs.Common.{map, take}
use Rattle.search_parts.specs.EditedPoints.{point_after, AreValued}
use Rattle.search_parts.proofs.editing.kept_points.Given as goal

abbrev pub invariant-loop-point : goal.invariant-loop-point
invariant-loop-point l = AreValued l.new (map (point_after l.old l.edit) (take l.point-index l.points)) l.kept.points.items l.kept.values.items
