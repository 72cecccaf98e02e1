use Rattle.front_replies.proofs.RowLaws.{end_last}
use Rattle.front_replies.proofs.printing.put_complete_front.Goals as goal

pub returns : goal.returns
returns c = end_last c.extend_from_slice.result c.args.outcomes.now c.args.text.now.items c.put_told.new.text.items c.extend_from_slice.new.self.items c.in-Ok.ensures c.extend_from_slice.ensures.items
