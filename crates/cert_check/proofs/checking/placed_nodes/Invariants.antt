use Rattle.std.proofs.Common.{take}
use Rattle.cert_check.specs.Walk.{AreNodesPlaced}
use Rattle.cert_check.proofs.checking.placed_nodes.Given as goal

abbrev pub invariant-loop-node : goal.invariant-loop-node
invariant-loop-node l = AreNodesPlaced l.model l.cuts (take l.node-index l.nodes) l.all.items
