use Rattle.std.proofs.Common.{◌≡◌, map, take}
use Rattle.tree_cert.specs.private.Marked.{renumbered_node}
use Rattle.tree_cert.proofs.used.renumbered_nodes.Given as goal

abbrev pub invariant-loop-node : goal.invariant-loop-node
invariant-loop-node l = l.list ≡ take l.node-index (map (renumbered_node l.counts) l.nodes)
