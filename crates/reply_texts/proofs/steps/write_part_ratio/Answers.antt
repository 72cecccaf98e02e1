use Rattle.std.proofs.Common.{◌++◌}
use Rattle.std.specs.Prelude.{codes}
use Rattle.reply_texts.specs.Places.{next_text}
use Rattle.reply_texts.proofs.TextLemmas.{join_last}
use Rattle.reply_texts.proofs.steps.write_part_ratio.Goals as goal

pub returns : goal.returns
returns c =
    join_last c.write_next.result c.args.reply.now.items ((codes "ratio" ++ next_text c.args.model.now c.args.leaving.now) ++ next_text c.args.model.now c.args.entering.now) (next_text c.args.model.now c.args.part.now) c.write_pair.new.reply.items c.write_next.new.reply.items
    c.in-Ok.ensures c.write_next.ensures
