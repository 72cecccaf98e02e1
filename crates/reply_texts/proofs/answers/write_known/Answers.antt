use Rattle.std.specs.Prelude.{codes}
use Rattle.reply_texts.specs.Texts.{known_words}
use Rattle.reply_texts.proofs.TextLemmas.{join_piece}
use Rattle.reply_texts.proofs.answers.write_known.Goals as goal

pub returns : goal.returns
returns c =
    join_piece c.extend_from_slice.result c.args.reply.now.items (known_words c.args.results c.args.bound.now c.args.best.now) (codes "\n") c.write_known_words.new.reply.items c.extend_from_slice.new.self.items
    c.in-Ok.ensures c.extend_from_slice.ensures.items
