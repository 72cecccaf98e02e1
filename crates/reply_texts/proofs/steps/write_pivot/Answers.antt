use Rattle.std.proofs.Common.{◌++◌}
use Rattle.std.specs.Prelude.{codes}
use Rattle.reply_texts.specs.Places.{next_text}
use Rattle.reply_texts.proofs.TextLemmas.{join, join_last}
use Rattle.reply_texts.proofs.steps.write_pivot.Goals as goal

pub returns : goal.returns
returns c =
    let pair = (codes "pivot" ++ next_text c.args.model.now c.args.leaving.now) ++ next_text c.args.model.now c.args.entering.now in
    let first = next_text c.args.model.now c.args.first.now in
    join_last c.write_next-2.result c.args.reply.now.items (pair ++ first) (next_text c.args.model.now c.args.second.now) c.write_next.new.reply.items c.write_next-2.new.reply.items
    (join c.args.reply.now.items pair first c.write_pair.new.reply.items c.write_next.new.reply.items c.in-Ok.ensures c.in-Ok-write_next.ensures)
    c.write_next-2.ensures
