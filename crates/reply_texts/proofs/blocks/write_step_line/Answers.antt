use Rattle.std.proofs.Common.{◌++◌}
use Rattle.std.specs.Prelude.{codes}
use Rattle.reply_texts.specs.Places.{step_text}
use Rattle.reply_texts.proofs.TextLemmas.{join, join_piece}
use Rattle.reply_texts.proofs.blocks.write_step_line.Goals as goal

pub returns : goal.returns
returns c =
    let step = step_text c.args.model.now c.args.step.now in
    join_piece c.extend_from_slice-2.result c.args.reply.now.items (codes "at " ++ step) (codes "\n") c.write_step.new.reply.items c.extend_from_slice-2.new.self.items
    (join c.args.reply.now.items (codes "at ") step c.extend_from_slice.new.self.items c.write_step.new.reply.items c.in-Ok.ensures.items c.in-Ok-write_step.ensures)
    c.extend_from_slice-2.ensures.items
