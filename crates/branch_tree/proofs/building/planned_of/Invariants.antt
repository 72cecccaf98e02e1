use Rattle.std.proofs.Common.{length}
use Rattle.branch_tree.proofs.BuildingLemmas.{PlansNodes}
use Rattle.branch_tree.proofs.building.planned_of.Given as goal

abbrev pub invariant-loop-node : goal.invariant-loop-node
invariant-loop-node l = PlansNodes l.fn.nodes.items l.rest.items l.roots.items l.planned.items

abbrev pub decreases-loop-node : goal.decreases-loop-node
decreases-loop-node l = length l.rest.items
