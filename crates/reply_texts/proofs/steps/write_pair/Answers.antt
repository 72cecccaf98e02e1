use Rattle.std.proofs.Common.{◌++◌}
use Rattle.reply_texts.specs.Places.{next_text}
use Rattle.reply_texts.proofs.TextLemmas.{join, join_last}
use Rattle.reply_texts.proofs.steps.write_pair.Goals as goal

pub returns : goal.returns
returns c =
    let first = next_text c.args.model.now c.args.first.now in
    join_last c.write_next-2.result c.args.reply.now.items (c.args.word.now ++ first) (next_text c.args.model.now c.args.second.now) c.write_next.new.reply.items c.write_next-2.new.reply.items
    (join c.args.reply.now.items c.args.word.now first c.extend_from_slice.new.self.items c.write_next.new.reply.items c.in-Ok.ensures.items c.in-Ok-write_next.ensures)
    c.write_next-2.ensures
