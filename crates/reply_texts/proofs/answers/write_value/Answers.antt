use Rattle.std.proofs.Common.{◌++◌}
use Rattle.std.specs.Prelude.{codes, decimal}
use Rattle.frac128.specs.Printing.{printed}
use Rattle.reply_texts.proofs.TextLemmas.{join, join_last_three}
use Rattle.reply_texts.proofs.answers.write_value.Goals as goal

pub returns : goal.returns
returns c =
    let number = printed c.args.value.now in
    join_last_three c.write_count_line.result c.args.reply.now.items (codes "optimal " ++ number) (codes " nodes ") (decimal c.args.results) (codes "\n") c.write_to.new.text.items c.write_count_line.new.reply.items
    (join c.args.reply.now.items (codes "optimal ") number c.extend_from_slice.new.self.items c.write_to.new.text.items c.in-Ok.ensures.items c.in-Ok-write_to.ensures.written)
    c.write_count_line.ensures
