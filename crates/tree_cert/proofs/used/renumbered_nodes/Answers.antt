use Rattle.std.proofs.Common.{length, sym, subst, arith}
use Rattle.cert_check.proofs.PairLemmas.{pushed_more, pushed_all}
use Rattle.tree_cert.specs.private.Marked.{NodeNamesFirst, renumbered_node}
use Rattle.tree_cert.proofs.used.renumbered_nodes.Goals as goal

pub push_renumbered_node-requires : goal.push_renumbered_node-requires
push_renumbered_node-requires c = subst (NodeNamesFirst (length c.args.counts.now)) (sym c.node-item.is) (c.requires c.loop-node.node-index c.node-item.result c.loop-node-test.true)

pub loop-node-preserved : goal.loop-node-preserved
loop-node-preserved c =
    pushed_more (renumbered_node c.args.counts.now) c.args.nodes.now c.loop-node.node-index c.node-item.result c.loop-node.list c.push_renumbered_node.new.list c.loop-node-test.true c.node-item.is c.loop-node.invariant
    c.in-Ok.ensures

pub returns : goal.returns
returns c = pushed_all (renumbered_node c.args.counts.now) c.args.nodes.now c.loop-node.node-index c.loop-node.list (omega (arith, c.loop-node-test.false)) c.loop-node.invariant
