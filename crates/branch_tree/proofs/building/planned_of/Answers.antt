use Rattle.branch_tree.proofs.BuildingLemmas.{plans-none}
use Rattle.branch_tree.proofs.building.planned_of.Goals as goal

pub loop-node-init : goal.loop-node-init
loop-node-init c = plans-none c.args.nodes.items _ _ c.new-roots.ensures.items c.new-planned.ensures.items
