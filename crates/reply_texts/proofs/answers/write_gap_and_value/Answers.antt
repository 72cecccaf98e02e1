use Rattle.std.proofs.Common.{◌++◌}
use Rattle.std.specs.Prelude.{codes, decimal}
use Rattle.frac128.specs.Printing.{printed}
use Rattle.reply_texts.proofs.TextLemmas.{join, join_last_three}
use Rattle.reply_texts.proofs.answers.write_gap_and_value.Goals as goal

pub returns : goal.returns
returns c =
    let r = c.args.reply.now.items in
    let gap = codes "within " ++ printed c.args.gap.now in
    let value = printed c.args.value.now in
    join_last_three c.write_count_line.result r ((gap ++ codes " ") ++ value) (codes " nodes ") (decimal c.args.results) (codes "\n") c.write_to-2.new.text.items c.write_count_line.new.reply.items
    (join r (gap ++ codes " ") value c.extend_from_slice-2.new.self.items c.write_to-2.new.text.items
    (join r gap (codes " ") c.write_to.new.text.items c.extend_from_slice-2.new.self.items
    (join r (codes "within ") (printed c.args.gap.now) c.extend_from_slice.new.self.items c.write_to.new.text.items c.in-Ok.ensures.items c.in-Ok-write_to.ensures.written)
    c.in-Ok-extend_from_slice.ensures.items)
    c.in-Ok-write_to-2.ensures.written)
    c.write_count_line.ensures
