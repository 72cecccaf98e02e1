use Rattle.std.proofs.Common.{map}
use Rattle.cert_writer.proofs.LinesPut.{lines_last}
use Rattle.front_replies.specs.FrontReplies.{row_words, head_words}
use Rattle.front_replies.proofs.printing.put_told.Goals as goal

pub returns : goal.returns
returns c =
    lines_last c.put_rows.result c.args.text.now.items (head_words c.args.kind.now c.args.outcomes.now) (map row_words c.args.outcomes.now) c.put_head.new.text.items c.push.new.self.items c.put_rows.new.text.items c.in-Ok.ensures c.in-Ok-push.ensures.items
    c.put_rows.ensures
