use Rattle.std.proofs.Common.{◌++◌}
use Rattle.std.specs.Prelude.{codes}
use Rattle.cert_writer.specs.CertText.{line_text}
use Rattle.reply_texts.proofs.TextLemmas.{join, join_piece}
use Rattle.front_replies.specs.FrontReplies.{part_words, scale_place_text}
use Rattle.front_replies.proofs.parts.put_scale_stop.Goals as goal

pub returns : goal.returns
returns c =
    let r = c.args.text.now.items in
    let part = line_text (part_words c.args.part.now) in
    let place = scale_place_text c.args.model.now c.args.place.now in
    join_piece c.extend_from_slice-2.result r (((codes "stopped scale " ++ part) ++ codes " ") ++ place) (codes "\n") c.put_scale_place.new.text.items c.extend_from_slice-2.new.self.items
    (join r ((codes "stopped scale " ++ part) ++ codes " ") place c.push.new.self.items c.put_scale_place.new.text.items
    (join r (codes "stopped scale " ++ part) (codes " ") c.put_part.new.text.items c.push.new.self.items
    (join r (codes "stopped scale ") part c.extend_from_slice.new.self.items c.put_part.new.text.items c.in-Ok.ensures.items c.in-Ok-put_part.ensures)
    c.in-Ok-push.ensures.items)
    c.in-Ok-put_scale_place.ensures)
    c.extend_from_slice-2.ensures.items
