use Rattle.shell_replies.proofs.NumberLemmas.{shows-number}
use Rattle.shell_replies.proofs.TextLemmas.{on_ok_if}
use Rattle.shell_replies.proofs.bounds.write_number.Goals as goal

pub returns : goal.returns
returns c = on_ok_if c.write_bound.result (λ is. shows-number c.args.number c.args.reply.now.items c.write_bound.new.reply.items c.has_room.ensures c.requires is) c.write_bound.ensures
