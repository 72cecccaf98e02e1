use Rattle.std.proofs.Common.{◌++◌}
use Rattle.std.specs.Prelude.{codes}
use Rattle.std.specs.List.{flat_map}
use Rattle.reply_texts.specs.Places.{next_text}
use Rattle.reply_texts.proofs.TextLemmas.{join, join_piece}
use Rattle.reply_texts.proofs.blocks.write_variable_line.Goals as goal

pub returns : goal.returns
returns c =
    let variables = flat_map (next_text c.args.model.now) c.args.variables.now in
    join_piece c.extend_from_slice-2.result c.args.reply.now.items (c.args.word.now ++ variables) (codes "\n") c.write_variables.new.reply.items c.extend_from_slice-2.new.self.items
    (join c.args.reply.now.items c.args.word.now variables c.extend_from_slice.new.self.items c.write_variables.new.reply.items c.in-Ok.ensures.items c.in-Ok-write_variables.ensures)
    c.extend_from_slice-2.ensures.items
