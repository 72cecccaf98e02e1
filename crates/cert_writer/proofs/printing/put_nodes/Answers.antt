use Rattle.std.proofs.Common.{◌++◌, ◌∷◌, [], map, List, arith, refl}
use Rattle.cert_text.specs.declared.cert.CertNode.{CertNode}
use Rattle.cert_writer.specs.CertText.{node_words, line_text, lines_text}
use Rattle.cert_writer.specs.Room.{HasNodeRoom}
use Rattle.cert_writer.proofs.PutLaws.{put_next, put_end, all_next, all_end, line_step, line_put}
use Rattle.cert_writer.proofs.printing.put_nodes.Goals as goal

pub loop-node-preserved : goal.loop-node-preserved
loop-node-preserved c =
    let n = c.node-item.result in
    record {
      put =
          put_next (λ (ns : List CertNode). lines_text (map node_words ns)) (λ (n : CertNode). line_text (node_words n) ++ 10 ∷ []) line_step c.args.nodes.now c.loop-node.node-index (c.args.text.now.items ++ lines_text (map node_words c.args.nodes.now)) c.loop-node.text.items c.loop-node.invariant.put
          n c.push.new.self.items c.loop-node-test.true c.node-item.is (line_put c.loop-node.text.items (line_text (node_words n)) c.put_node.new.text.items c.push.new.self.items c.in-Ok.ensures.text c.in-Ok-push.ensures.items);
      room = all_next HasNodeRoom c.args.nodes.now c.loop-node.node-index n c.loop-node-test.true c.node-item.is c.loop-node.invariant.room c.in-Ok.ensures.room;
    }

pub returns-clause-room : goal.returns-clause-room
returns-clause-room c = all_end HasNodeRoom c.args.nodes.now c.loop-node.node-index (omega (arith, c.loop-node-test.false)) c.loop-node.invariant.room

pub returns-clause-text : goal.returns-clause-text
returns-clause-text c =
    put_end (λ (ns : List CertNode). lines_text (map node_words ns)) (λ (n : CertNode). line_text (node_words n) ++ 10 ∷ []) line_step c.args.nodes.now c.loop-node.node-index (c.args.text.now.items ++ lines_text (map node_words c.args.nodes.now)) c.loop-node.text.items c.loop-node.invariant.put (omega (arith, c.loop-node-test.false)) refl
