use Rattle.std.proofs.Common.{length}
use Rattle.branch_tree.specs.Preorder.{DataTree}
use Rattle.branch_tree.specs.private.Rebuilt.{ArePlanned}
use Rattle.branch_tree.proofs.BuildingLemmas.{Builds}
use Rattle.branch_tree.proofs.building.build.Given as goal

abbrev pub invariant-loop-next : goal.invariant-loop-next
invariant-loop-next l = (T : DataTree) → ArePlanned l.fn.table l.fn.planned.items T → Builds T l.table l.ways.items l.rest.items l.id l.opens

abbrev pub decreases-loop-next : goal.decreases-loop-next
decreases-loop-next l = length l.rest.items
