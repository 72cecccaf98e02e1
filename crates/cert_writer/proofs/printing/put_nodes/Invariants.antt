use Rattle.std.proofs.Common.{◌≡◌, ◌++◌, take, drop, map}
use Rattle.std.specs.Prelude.{All}
use Rattle.cert_writer.specs.CertText.{node_words, lines_text}
use Rattle.cert_writer.specs.Room.{HasNodeRoom}
use Rattle.cert_writer.proofs.printing.put_nodes.Given as goal

abbrev pub invariant-loop-node : goal.invariant-loop-node
invariant-loop-node l = record {
  put : l.fn.text.items ++ lines_text (map node_words l.nodes) ≡ l.text.items ++ lines_text (map node_words (drop l.node-index l.nodes));
  room : All HasNodeRoom (take l.node-index l.nodes);
}
