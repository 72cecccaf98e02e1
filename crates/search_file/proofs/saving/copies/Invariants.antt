use Rattle.std.proofs.Common.{◌≡◌, take}
use Rattle.search_file.proofs.saving.copies.Given as goal

abbrev pub invariant-loop-point : goal.invariant-loop-point
invariant-loop-point l = l.list ≡ take l.point-index l.points
