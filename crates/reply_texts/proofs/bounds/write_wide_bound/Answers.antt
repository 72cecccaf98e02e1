use Rattle.std.proofs.Common.{◌++◌}
use Rattle.std.specs.Prelude.{codes, decimal}
use Rattle.reply_texts.specs.Places.{step_text}
use Rattle.reply_texts.proofs.TextLemmas.{join, join_piece}
use Rattle.reply_texts.proofs.bounds.write_wide_bound.Goals as goal

pub returns : goal.returns
returns c =
    let r = c.args.reply.now.items in
    let leaf = codes "bound wide " ++ decimal c.args.leaf in
    let step = step_text c.args.model.now c.args.step.now in
    join_piece c.extend_from_slice-2.result r ((leaf ++ codes " ") ++ step) (codes "\n") c.write_step.new.reply.items c.extend_from_slice-2.new.self.items
    (join r (leaf ++ codes " ") step c.extend_from_slice.new.self.items c.write_step.new.reply.items
    (join r leaf (codes " ") c.write_count.new.reply.items c.extend_from_slice.new.self.items c.in-Ok.ensures c.in-Ok-extend_from_slice.ensures.items)
    c.in-Ok-write_step.ensures)
    c.extend_from_slice-2.ensures.items
