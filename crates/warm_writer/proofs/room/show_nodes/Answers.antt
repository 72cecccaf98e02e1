use Rattle.std.proofs.Common.{subst, arith}
use Rattle.std.specs.List.{All}
use Rattle.std.proofs.lemmas.List.{take_all}
use Rattle.std.proofs.lemmas.List.Elements.{All-more}
use Rattle.warm_writer.specs.Writable.{NodeFits}
use Rattle.warm_writer.proofs.room.show_nodes.Goals as goal

pub loop-node-preserved : goal.loop-node-preserved
loop-node-preserved c =
    All-more NodeFits c.args.nodes.now c.loop-node.node-index c.node-item.result c.loop-node-test.true c.loop-node.invariant (subst NodeFits c.node-item.is c.show_node.ensures)

pub returns : goal.returns
returns c = subst (All NodeFits) (take_all c.loop-node.node-index c.args.nodes.now (omega arith)) c.loop-node.invariant
