use Rattle.std.proofs.Common.{◌++◌}
use Rattle.std.specs.Prelude.{codes}
use Rattle.reply_texts.proofs.TextLemmas.{join_piece}
use Rattle.reply_texts.proofs.pieces.write_line.Goals as goal

pub returns : goal.returns
returns c =
    join_piece c.extend_from_slice.result c.args.reply.now.items (c.args.first.now ++ c.args.second.now) (codes "\n") c.write_two.new.reply.items c.extend_from_slice.new.self.items c.in-Ok.ensures c.extend_from_slice.ensures.items
