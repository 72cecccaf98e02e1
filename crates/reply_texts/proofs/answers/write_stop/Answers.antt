use Rattle.reply_texts.specs.Texts.{known_text}
use Rattle.reply_texts.proofs.TextLemmas.{join_last}
use Rattle.reply_texts.proofs.answers.write_stop.Goals as goal

pub returns : goal.returns
returns c =
    join_last c.write_known.result c.args.reply.now.items c.args.why.now (known_text c.args.results c.args.bound.now c.args.best.now) c.extend_from_slice.new.self.items c.write_known.new.reply.items
    c.in-Ok.ensures.items c.write_known.ensures
