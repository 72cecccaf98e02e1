use Rattle.std.proofs.Common.{◌∙◌, ap, ◌++◌}
use Rattle.reply_texts.specs.Texts.{known_words, stop_words}
use Rattle.reply_texts.proofs.TextLemmas.{join_last}
use Rattle.reply_texts.proofs.stops.write_stop_words.Goals as goal

pub returns : goal.returns
returns c =
    join_last c.write_known_words.result c.args.reply.now.items (stop_words c.args.why.now) (known_words c.args.results c.args.bound.now c.args.best.now) c.extend_from_slice.new.self.items c.write_known_words.new.reply.items
    (c.in-Ok.ensures.items ∙ ap (λ t. c.args.reply.now.items ++ t) c.words_of_stop.ensures) c.write_known_words.ensures
