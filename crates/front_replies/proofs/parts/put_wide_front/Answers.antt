use Rattle.std.proofs.Common.{◌++◌}
use Rattle.std.specs.Prelude.{codes}
use Rattle.reply_texts.proofs.TextLemmas.{join_piece, join_last}
use Rattle.front_replies.specs.FrontReplies.{front_part_text, scale_stop_text}
use Rattle.front_replies.proofs.parts.put_wide_front.Goals as goal

pub returns : goal.returns
returns c =
    let stop = scale_stop_text c.args.model.now c.args.part.now c.args.place.now in
    join_last c.extend_from_slice.result c.args.text.now.items (front_part_text c.args.outcomes.now) (stop ++ codes "end\n") c.put_front_part.new.text.items c.extend_from_slice.new.self.items
    c.in-Ok.ensures
    (join_piece c.extend_from_slice.result c.put_front_part.new.text.items stop (codes "end\n") c.put_scale_stop.new.text.items c.extend_from_slice.new.self.items
    c.in-Ok-put_scale_stop.ensures
    c.extend_from_slice.ensures.items)
