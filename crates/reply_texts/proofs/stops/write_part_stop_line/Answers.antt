use Rattle.std.proofs.Common.{◌++◌}
use Rattle.std.specs.Prelude.{codes}
use Rattle.reply_texts.specs.Texts.{known_words, stop_words}
use Rattle.reply_texts.proofs.TextLemmas.{join_last_three}
use Rattle.reply_texts.proofs.stops.write_part_stop_line.Goals as goal

pub returns : goal.returns
returns c =
    join_last_three c.write_line.result c.args.reply.now.items (stop_words c.args.why.now ++ known_words c.args.results c.args.bound.now c.args.best.now) (codes " of ") c.args.part.now (codes "\n") c.write_stop_words.new.reply.items c.write_line.new.reply.items
    c.in-Ok.ensures c.write_line.ensures
