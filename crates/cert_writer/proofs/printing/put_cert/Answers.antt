use Rattle.std.proofs.Common.{◌≡◌, subst, ap, ◌∙◌, map, ◌++◌}
use Rattle.std.specs.Prelude.{All, codes}
use Rattle.cert_writer.specs.CertText.{cut_words, node_words, lines_text}
use Rattle.cert_writer.specs.Room.{HasNodeRoom}
use Rattle.cert_writer.proofs.PutLaws.{text_last, if_ok}
use Rattle.cert_writer.proofs.printing.put_cert.Goals as goal

pub returns-clause-text : goal.returns-clause-text
returns-clause-text c =
    let begun : c.extend_from_slice.new.self.items ≡ codes "cert 1\n" = c.in-Ok.ensures.items ∙ ap (λ l. l ++ codes "cert 1\n") c.requires in
    text_last c.extend_from_slice-2.result c.args.cert.now c.extend_from_slice.new.self.items c.put_claim.new.text.items c.push.new.self.items c.put_point.new.text.items c.put_ray.new.text.items c.put_cuts.new.text.items c.put_nodes.new.text.items
    c.extend_from_slice-2.new.self.items begun c.in-Ok-put_claim.ensures.text c.in-Ok-push.ensures.items c.in-Ok-put_point.ensures.text c.in-Ok-put_ray.ensures.text
    (c.in-Ok-put_cuts.ensures ∙ ap (λ cs. c.put_ray.new.text.items ++ lines_text (map cut_words cs)) c.as_slice.ensures)
    (c.in-Ok-put_nodes.ensures.text ∙ ap (λ ns. c.put_cuts.new.text.items ++ lines_text (map node_words ns)) c.as_slice-2.ensures) c.extend_from_slice-2.ensures.items

pub returns-clause-room : goal.returns-clause-room
returns-clause-room c =
    if_ok c.extend_from_slice-2.result
    (record { claim = c.in-Ok-put_claim.ensures.room; point = c.in-Ok-put_point.ensures.room; ray = c.in-Ok-put_ray.ensures.room; nodes = subst (All HasNodeRoom) c.as_slice-2.ensures c.in-Ok-put_nodes.ensures.room })
