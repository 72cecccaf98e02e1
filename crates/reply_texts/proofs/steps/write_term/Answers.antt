use Rattle.std.specs.Prelude.{codes}
use Rattle.reply_texts.specs.Places.{variable_text}
use Rattle.reply_texts.proofs.TextLemmas.{join_last}
use Rattle.reply_texts.proofs.steps.write_term.Goals as goal

pub returns : goal.returns
returns c =
    join_last c.write_variable.result c.args.reply.now.items (codes "lag ") (variable_text c.args.model.now c.args.of.now) c.extend_from_slice.new.self.items c.write_variable.new.reply.items c.in-Ok.ensures.items c.write_variable.ensures
