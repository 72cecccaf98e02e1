use Rattle.std.proofs.Common.{take}
use Rattle.std.specs.List.{All}
use Rattle.warm_writer.specs.Writable.{NodeFits}
use Rattle.warm_writer.proofs.room.show_nodes.Given as goal

abbrev pub invariant-loop-node : goal.invariant-loop-node
invariant-loop-node l = All NodeFits (take l.node-index l.nodes)
