use Rattle.std.proofs.Common.{◌++◌, ◌∙◌, ap}
use Rattle.reply_texts.specs.Places.{block_text, step_line}
use Rattle.reply_texts.proofs.TextLemmas.{join_last}
use Rattle.reply_texts.proofs.stops.write_wide_place.Goals as goal

pub returns : goal.returns
returns c =
    let M = c.args.model.now in
    let place = c.args.place.now in
    join_last c.write_step_line.result c.args.reply.now.items (block_text M place.path place.cuts place.basis) (step_line M place.step) c.write_block.new.reply.items c.write_step_line.new.reply.items
    (c.in-Ok.ensures ∙ ap (λ cuts. c.args.reply.now.items ++ block_text M place.path cuts place.basis) c.as_slice.ensures)
    c.write_step_line.ensures
