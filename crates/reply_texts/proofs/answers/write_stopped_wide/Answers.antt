use Rattle.std.proofs.Common.{◌++◌, ◌∙◌, ap}
use Rattle.std.specs.Prelude.{codes}
use Rattle.reply_texts.specs.Places.{block_text, step_line}
use Rattle.reply_texts.specs.Texts.{known_text}
use Rattle.reply_texts.proofs.TextLemmas.{join, join_piece}
use Rattle.reply_texts.proofs.answers.write_stopped_wide.Goals as goal

pub returns : goal.returns
returns c =
    let M = c.args.model.now in
    let place = c.args.place.now in
    let stop = codes "stopped wide " ++ known_text c.args.results c.args.bound.now c.args.best.now in
    let block = block_text M place.path place.cuts place.basis in
    let step = step_line M place.step in
    let before = c.write_stop.new.reply.items in
    join_piece c.extend_from_slice.result c.args.reply.now.items ((stop ++ block) ++ step) (codes "end\n") c.write_step_line.new.reply.items c.extend_from_slice.new.self.items
    (join c.args.reply.now.items (stop ++ block) step c.write_block.new.reply.items c.write_step_line.new.reply.items
    (join c.args.reply.now.items stop block before c.write_block.new.reply.items c.in-Ok.ensures
    (c.in-Ok-write_block.ensures ∙ ap (λ cuts. before ++ block_text M place.path cuts place.basis) c.as_slice.ensures))
    c.in-Ok-write_step_line.ensures)
    c.extend_from_slice.ensures.items
