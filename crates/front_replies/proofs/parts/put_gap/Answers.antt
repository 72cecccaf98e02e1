use Rattle.std.specs.Prelude.{codes}
use Rattle.front_replies.specs.FrontReplies.{value_words}
use Rattle.front_replies.proofs.RowLaws.{two_behind_last}
use Rattle.front_replies.proofs.parts.put_gap.Goals as goal

pub returns : goal.returns
returns c =
    two_behind_last c.put_values-2.result c.args.text.now.items (codes "gap") (value_words c.args.before.now) (value_words c.args.behind.now) c.extend_from_slice.new.self.items c.put_values.new.text.items c.put_values-2.new.text.items
    c.in-Ok.ensures.items c.in-Ok-put_values.ensures c.put_values-2.ensures
