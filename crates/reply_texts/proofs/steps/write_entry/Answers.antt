use Rattle.std.proofs.Common.{ℕ, List, ◌++◌, ◌∙◌, ap}
use Rattle.std.specs.Prelude.{codes}
use Rattle.lp_model.specs.Lawful.{column_name}
use Rattle.reply_texts.specs.Places.{variable_text}
use Rattle.reply_texts.proofs.TextLemmas.{join_last_two}
use Rattle.reply_texts.proofs.steps.write_entry.Goals as goal

pub returns : goal.returns
returns c =
    join_last_two c.write_next.result c.args.reply.now.items (codes "lag col " ++ column_name c.args.model.now c.args.column.0) (codes " ") (variable_text c.args.model.now c.args.by.now) c.write_two.new.reply.items c.write_next.new.reply.items
    (c.in-Ok.ensures ∙ ap (λ (t : List ℕ). c.args.reply.now.items ++ (codes "lag col " ++ t)) c.column_name.ensures)
    c.write_next.ensures
