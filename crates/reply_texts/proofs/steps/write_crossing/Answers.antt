use Rattle.std.proofs.Common.{◌≡◌, ℕ, List, ◌++◌, ◌∙◌, subst, ap}
use Rattle.std.specs.Prelude.{codes, IfOk}
use Rattle.lp_model.specs.Lawful.{row_name, column_name}
use Rattle.reply_texts.proofs.TextLemmas.{join_last_two}
use Rattle.reply_texts.proofs.steps.write_crossing.Goals as goal

pub returns : goal.returns
returns c =
    let row = c.args.first.now ++ row_name c.args.model.now c.args.row.0 in
    join_last_two c.write_two-2.result c.args.reply.now.items row (codes " col ") (column_name c.args.model.now c.args.column.0) c.write_two.new.reply.items c.write_two-2.new.reply.items
    (c.in-Ok.ensures ∙ ap (λ (t : List ℕ). c.args.reply.now.items ++ (c.args.first.now ++ t)) c.row_name.ensures)
    (subst (λ (t : List ℕ). IfOk c.write_two-2.result (λ _. c.write_two-2.new.reply.items ≡ c.write_two.new.reply.items ++ (codes " col " ++ t))) c.column_name.ensures c.write_two-2.ensures)
