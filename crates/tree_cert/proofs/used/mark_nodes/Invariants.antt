use Rattle.std.proofs.Common.{◌≡◌, take}
use Rattle.tree_cert.specs.private.Marked.{marks_in}
use Rattle.tree_cert.proofs.used.mark_nodes.Given as goal

abbrev pub invariant-loop-node : goal.invariant-loop-node
invariant-loop-node l = l.marks ≡ marks_in l.fn.marks (take l.node-index l.nodes)
