use Rattle.std.proofs.Common.{subst, arith, List}
use Rattle.std.proofs.lemmas.List.{take_all}
use Rattle.cert_text.specs.declared.cert.CertNode.{CertNode}
use Rattle.cert_check.specs.Walk.{AreNodesPlaced}
use Rattle.cert_check.proofs.WalkLemmas.{placed_more}
use Rattle.cert_check.proofs.checking.placed_nodes.Goals as goal

pub loop-node-preserved : goal.loop-node-preserved
loop-node-preserved c =
    placed_more c.args.model.now c.args.cuts c.node-item.result c.in-Ok.one c.in-Ok.ensures c.args.nodes.now c.loop-node.node-index c.loop-node.all.items c.push.new.self.items c.loop-node-test.true c.node-item.is c.loop-node.invariant
    c.in-Ok-push.ensures.items

pub returns : goal.returns
returns c =
    subst (λ (ns : List CertNode). AreNodesPlaced c.args.model.now c.args.cuts ns c.loop-node.all.items) (take_all c.loop-node.node-index c.args.nodes.now (let past = c.loop-node-test.false in omega (arith, past))) c.loop-node.invariant
