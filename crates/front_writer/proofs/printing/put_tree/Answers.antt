use Rattle.std.proofs.Common.{◌≡◌, ◌++◌, map, List, ap, subst, ◌∙◌}
use Rattle.std.specs.Prelude.{All, IfOk}
use Rattle.cert_text.specs.declared.cert.CertNode.{CertNode}
use Rattle.cert_writer.specs.CertText.{cut_words, node_words, lines_text}
use Rattle.cert_writer.specs.Room.{HasNodeRoom}
use Rattle.front_writer.specs.FrontWords.{tree_words}
use Rattle.cert_writer.proofs.LinesPut.{lines_last, more_last}
use Rattle.front_writer.proofs.RoomLaws.{tree_room}
use Rattle.front_writer.proofs.printing.put_tree.Goals as goal

pub returns-clause-text : goal.returns-clause-text
returns-clause-text c =
    let tree = c.args.tree.now in
    let last = c.put_nodes.result in
    let new = c.put_nodes.new.text.items in
    lines_last last c.args.text.now.items (tree_words tree.of) (map cut_words tree.cuts ++ map node_words tree.nodes) c.put_tree_of.new.text.items c.push.new.self.items new c.in-Ok.ensures.text c.in-Ok-push.ensures.items
    (more_last last (map cut_words tree.cuts) (map node_words tree.nodes) c.push.new.self.items c.put_cuts.new.text.items new
    (c.in-Ok-put_cuts.ensures ∙ ap (λ cs. c.push.new.self.items ++ lines_text (map cut_words cs)) c.as_slice.ensures)
    (subst (λ (ns : List CertNode). IfOk last (λ _. new ≡ c.put_cuts.new.text.items ++ lines_text (map node_words ns))) c.as_slice-2.ensures c.put_nodes.ensures.text))

pub returns-clause-room : goal.returns-clause-room
returns-clause-room c =
    tree_room c.put_nodes.result c.args.tree.now c.in-Ok.ensures.room (subst (λ (ns : List CertNode). IfOk c.put_nodes.result (λ _. All HasNodeRoom ns)) c.as_slice-2.ensures c.put_nodes.ensures.room)
