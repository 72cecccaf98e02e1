use Rattle.reply_texts.proofs.TextLemmas.{join_piece}
use Rattle.reply_texts.proofs.pieces.write_two.Goals as goal

pub returns : goal.returns
returns c =
    join_piece c.extend_from_slice-2.result c.args.reply.now.items c.args.first.now c.args.second.now c.extend_from_slice.new.self.items c.extend_from_slice-2.new.self.items c.in-Ok.ensures.items c.extend_from_slice-2.ensures.items
