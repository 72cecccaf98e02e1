use Rattle.std.proofs.Common.{◌++◌}
use Rattle.std.specs.Prelude.{codes}
use Rattle.reply_texts.specs.Texts.{number_or_none}
use Rattle.reply_texts.proofs.TextLemmas.{join, join_piece}
use Rattle.reply_texts.proofs.bounds.write_bound.Goals as goal

pub returns : goal.returns
returns c =
    let number = number_or_none c.args.bound.now in
    join_piece c.extend_from_slice-2.result c.args.reply.now.items (codes "bound " ++ number) (codes "\n") c.write_number_or_none.new.reply.items c.extend_from_slice-2.new.self.items
    (join c.args.reply.now.items (codes "bound ") number c.extend_from_slice.new.self.items c.write_number_or_none.new.reply.items c.in-Ok.ensures.items c.in-Ok-write_number_or_none.ensures)
    c.extend_from_slice-2.ensures.items
